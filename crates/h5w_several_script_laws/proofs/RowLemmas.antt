-- A worked script over two datasets.
use Rattle.std.proofs.Common.{ℕ, [], ◌∷◌, refl, inl, arith}
use Rattle.h5w_model.specs.Integers.{cell_bytes_of}
use Rattle.h5w_several_script_laws.specs.Scripts.{LawfulAll}
use Rattle.h5w_several_script_laws.specs.Rows.{row_lines, row_replies, two_sets}

pub row_lawful : LawfulAll two_sets row_lines (row_replies (6 ∷ 5 ∷ []) 0 3)
unfolding cell_bytes_of
row_lawful = (
  record { set = _; used = refl; allowed = inl refl },
  (
    (omega arith, omega arith, refl),
    (
      record { set = _; used = refl; allowed = inl refl },
      (
        inl (record { counts = 6 ∷ 5 ∷ []; is = refl; each = (omega arith, (omega arith, tt)); bound = omega arith }),
        (
          refl,
          (
            record { set = _; there = refl; own = _; is = refl; allowed = refl },
            (
              record { set = _; there = refl; own = _; is = refl; allowed = inl (omega arith, inl (record { rows = 0; is = refl; flushed = (0, omega arith, refl); since_begin = omega arith; seen = omega arith })) },
              (
                (omega arith, omega arith, refl),
                (
                  record { set = _; there = refl; own = _; is = refl; allowed = refl },
                  (
                    record { set = _; there = refl; own = _; is = refl; allowed = inl (omega arith, inl (record { rows = 3; is = refl; flushed = (0, omega arith, refl); since_begin = omega arith; seen = omega arith })) },
                    (
                      refl,
                      (
                        record { set = _; there = refl; own = _; is = refl; allowed = refl },
                        (
                          record { set = _; there = refl; own = _; is = refl; allowed = inl (omega arith, inl (record { rows = 1; is = refl; flushed = (0, omega arith, refl); since_begin = omega arith; seen = omega arith })) },
                          tt,
                        ),
                      ),
                    ),
                  ),
                ),
              ),
            ),
          ),
        ),
      ),
    ),
  ),
)
