-- The rule of the table of rights, turned from one test that antt computes over all of its rows into the rule at each place. Assumes nothing.
use Rattle.std.proofs.Common.{◌≡◌, refl, ap, ap₂, Bool, true, ◌&&◌, List, [], ◌∷◌, ℕ, zero, suc, ◌+◌, ◌^◌, ◌<◌, add-zero, zero-add, add-suc, suc-add, arith, eqb, length, get_or, eqb-true}
use mathlib.Core.Bool.{beq}
use Rattle.lists.specs.Tests.{and_left, and_right, beq_same}
use Rattle.rights.specs.declared.Right.{Right}
use Rattle.rights.specs.Rights.{right_count, machine_grants}
use Rattle.rights.specs.Table.{no_row, the_table}

-- the row that 002 says of right b
abbrev pub row_of : ℕ → Right
row_of b = record { worth = 2 ^ b; machine = machine_grants b }

-- whether a row is that of right b
abbrev pub row_ruled : ℕ → Right → Bool
row_ruled b r = eqb r.worth (2 ^ b) && beq r.machine (machine_grants b)

-- whether each row of a table is what 002 says of its place, counted from b
abbrev pub ruled : ℕ → List Right → Bool
ruled b [] = true
ruled b (r ∷ rows) = row_ruled b r && ruled (suc b) rows

row_ruled_lem : (b : ℕ) (r : Right) → row_ruled b r ≡ true → r ≡ row_of b
row_ruled_lem b r t =
    ap₂ (λ (w : ℕ) (m : Bool). record { worth = w; machine = m })
    (eqb-true r.worth (2 ^ b) (and_left (eqb r.worth (2 ^ b)) (beq r.machine (machine_grants b)) t))
    (beq_same r.machine (machine_grants b) (and_right (eqb r.worth (2 ^ b)) (beq r.machine (machine_grants b)) t))

ruled_from : (rows : List Right) (i : ℕ) → ruled i rows ≡ true → (none : Right) (b : ℕ) → b < length rows → get_or rows b none ≡ row_of (i + b)
ruled_from [] i t none b h = absurd (omega arith)
ruled_from (r ∷ rows) i t none zero h = rw add-zero (row_ruled_lem i r (and_left (row_ruled i r) (ruled (suc i) rows) t))
ruled_from (r ∷ rows) i t none (suc b) h = rw (add-suc, ← suc-add) (ruled_from rows (suc i) (and_right (row_ruled i r) (ruled (suc i) rows) t) none b (omega arith))

-- each place of a table that passes the test has the row that 002 says of the right with that number
ruled_at : (rows : List Right) → ruled 0 rows ≡ true → (none : Right) (b : ℕ) → b < length rows → get_or rows b none ≡ row_of b
ruled_at rows t none b h = rw zero-add at (ruled_from rows 0 t none b h)

-- the rule at each place, by the test over the whole table
table_ruled : (b : ℕ) → b < right_count → get_or the_table b no_row ≡ row_of b
table_ruled b h = ruled_at the_table refl no_row b h

pub table_worth : (b : ℕ) → b < right_count → (get_or the_table b no_row).worth ≡ 2 ^ b
table_worth b h = ap (λ (r : Right). r.worth) (table_ruled b h)

pub table_machine : (b : ℕ) → b < right_count → (get_or the_table b no_row).machine ≡ machine_grants b
table_machine b h = ap (λ (r : Right). r.machine) (table_ruled b h)
