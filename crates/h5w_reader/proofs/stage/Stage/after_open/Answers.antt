use Rattle.h5w_reader.proofs.stage.Stage.after_open.Goals as goal

pub returns-in-Done : goal.returns-in-Done
returns-in-Done c = λ known. rw c.in-Done.is (c.after_root.ensures known)
