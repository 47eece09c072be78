-- Working: The cover table by what the code has of a register: the cells of the paper, the list of actors, the column of their ids. What they are in the
-- definition's words is `shown_natural` and `tests_natural` of proofs/.
use Rattle.std.specs.Prelude.{Bool, not, ◌&&◌, cond, List, [], ◌∷◌, map, ℕ, ◌-◌, ◌%◌, eqb, leb, ltb, take}
use Rattle.lists.specs.Lists.{any}
use Rattle.register.specs.Limits.{claim_limit, machine_kind, id_limit, moment_end}
use Rattle.register.specs.Register.{actors_of}
use Rattle.register.specs.declared.Actors.{Actors}
use Rattle.refusals.specs.Refusals.{Test}
use Rattle.refusals.specs.declared.Refusal.TheVariants.{Unsound, Range, Absent}
use Rattle.gate_rules.specs.Gate.{first_of}
use Rattle.table_showing.specs.Shown.{public_number, nothing_number}

-- a cell of the paper
abbrev pub cell_number : ℕ → ℕ
cell_number n = cond (eqb n 0) nothing_number (cond (eqb n 1) public_number ((n - 2) % claim_limit))

-- the owner of x, alone in a list, where x is a machine that has one
abbrev pub owners_in : Actors → ℕ → List ℕ
owners_in k x = map (λ a. a.owner) (first_of (λ a. eqb x a.id && (eqb machine_kind a.kind && not (eqb a.owner 0))) (actors_of k))

-- the tests, by whether the register is sound and the ids of the first n actors
abbrev pub tests_by : Bool → List ℕ → ℕ → ℕ → ℕ → List Test
tests_by whole names n actor moment =
    record { passed = whole; refusal = Unsound }
    ∷ record { passed = leb actor id_limit && ltb moment moment_end; refusal = Range }
    ∷ record { passed = any (eqb actor) (take n names); refusal = Absent }
    ∷ []
