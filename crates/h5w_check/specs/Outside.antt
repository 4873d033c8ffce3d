-- What an image's failure is to a check.
use Rattle.h5w_image.specs.declared.fault.ImageError.{ImageError}
use Rattle.h5w_image.specs.declared.fault.ImageError.TheVariants as image_errors
use Rattle.h5w_check.specs.declared.error.CheckError.{CheckError}
use Rattle.h5w_check.specs.declared.error.CheckError.TheVariants.{Failed, OutOfMemory}

abbrev pub outside : ImageError → CheckError
outside image_errors.Failed = Failed
outside image_errors.OutOfMemory = OutOfMemory
