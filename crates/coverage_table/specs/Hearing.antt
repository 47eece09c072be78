-- Laws: A cell after some remarks, and the remark that a claim has by its chain. Assumes nothing.
use Rattle.std.specs.Prelude.{List, [], ◌∷◌, ℕ}
use Rattle.register.specs.Chain.{hops_of, live}
use Rattle.register.specs.declared.Resource.{Resource}
use Rattle.register.specs.declared.Claim.{Claim}
use Rattle.register.specs.declared.Register.{Register}
use Rattle.coverage_table.specs.Table.{Remark, Entry, entry_after}

-- a cell after some remarks, first to last
abbrev pub heard : Register → ℕ → Resource → ℕ → List Remark → Entry → Entry
heard r x o b [] e = e
heard r x o b (n ∷ remarks) e = heard r x o b remarks (entry_after r x o b n e)

-- the remark that a claim has by its chain among some claims, latest first: its hop count, and whether it is live
abbrev pub remark_among : ℕ → List Claim → Claim → Remark
remark_among moment all c = record { claim = c; hops = hops_of all c; lives = live moment all c }
