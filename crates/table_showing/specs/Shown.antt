-- Believed: The cover table of an actor as numbers (02, T-06), for a call that shows it: what is remarked on each claim, and what stands in each cell.
use Rattle.refusals.specs.declared.Refusal.{Refusal}
use Rattle.std.specs.Prelude.{Bool, cond, ◌&&◌, List, [], ◌∷◌, ◌++◌, map, ℕ, suc, ◌-◌, eqb, leb, ltb, length, replicate, Result, Err, Ok}
use Rattle.lists.specs.Lists.{any}
use Rattle.register.specs.Limits.{claim_limit, id_limit, moment_end}
use Rattle.register.specs.Register.{actors_of, claims_of}
use Rattle.register.specs.Chain.{latest, expired}
use Rattle.register.specs.declared.Claim.{Claim}
use Rattle.register.specs.declared.Register.{Register}
use Rattle.soundness_rules.specs.Sound.{sound}
use Rattle.refusals.specs.Refusals.{Test, outcome_of}
use Rattle.refusals.specs.declared.Refusal.TheVariants.{Unsound, Range, Absent}
use Rattle.coverage_table.specs.Table.{Remark, Entry, nothing, openly, claimed, Row, paper_of, cover_table, table_owner}
use Rattle.table_showing.specs.declared.TableShown.{TableShown}

-- a claim: 1 it lives; else the first that holds: 2 it has no weight, 3 it has expired, 4 its source is dead
abbrev pub state_number : ℕ → Claim → Bool → ℕ
state_number moment c lives = cond (eqb c.weight 0) 2 (cond (expired moment c) 3 (cond lives 1 4))

abbrev pub remark_number : ℕ → Remark → ℕ
remark_number moment n = state_number moment n.claim n.lives

-- the place of the first claim numbered x: how many stand before it
abbrev pub place_named : ℕ → List Claim → ℕ
place_named x [] = 0
place_named x (c ∷ cs) = let more = suc (place_named x cs) in cond (eqb x c.id) 0 more

-- a cell: the place of the claim that speaks, below 256; 256 for public; 257 for nothing
abbrev pub public_number : ℕ
public_number = 256

abbrev pub nothing_number : ℕ
nothing_number = 257

abbrev pub entry_number : Register → Entry → ℕ
entry_number r nothing = nothing_number
entry_number r openly = public_number
entry_number r (claimed c hops len) = place_named c.id (claims_of r.claims)

-- the cells of a table, row by row
abbrev pub rows_numbers : Register → List Row → List ℕ
rows_numbers r [] = []
rows_numbers r (row ∷ rows) = map (λ c. entry_number r c.entry) row.cells ++ rows_numbers r rows

-- numbers shown in as many places as there are, the same behind them
abbrev pub shown_in : ℕ → ℕ → List ℕ → List ℕ
shown_in places none l = l ++ replicate (places - length l) none

-- 64 resources with 17 rights each
abbrev pub shown_cells : ℕ
shown_cells = 1088

-- the owner that is asked, 0 for none, and its rows: none where there is no owner
abbrev pub owner_shown : List ℕ → ℕ
owner_shown [] = 0
owner_shown (y ∷ more) = y

abbrev pub owner_rows : Register → ℕ → List ℕ → List Row
owner_rows r moment [] = []
owner_rows r moment (y ∷ more) = cover_table r moment y

-- the remarks on the claims, in register order
abbrev pub remarks_shown : Register → ℕ → ℕ → List Remark
remarks_shown r actor moment = latest (paper_of r moment actor).remarks

-- the table of an actor that stands in a sound register
unfoldable pub table_held : Register → ℕ → ℕ → TableShown
table_held r actor moment = record {
  outcome = Ok tt;
  owner = owner_shown (table_owner r actor);
  hops = shown_in claim_limit 0 (map (λ n. n.hops) (remarks_shown r actor moment));
  states = shown_in claim_limit 0 (map (remark_number moment) (remarks_shown r actor moment));
  own = shown_in shown_cells nothing_number (rows_numbers r (cover_table r moment actor));
  owners = shown_in shown_cells nothing_number (rows_numbers r (owner_rows r moment (table_owner r actor)));
}

-- nothing is shown
abbrev pub table_none : Result Unit Refusal → TableShown
table_none outcome = record {
  outcome = outcome;
  owner = 0;
  hops = replicate claim_limit 0;
  states = replicate claim_limit 0;
  own = replicate shown_cells nothing_number;
  owners = replicate shown_cells nothing_number;
}

-- tests 1, 2 and 3: the register is sound; the actor's number is 0 to 65,535 and the moment is one; the actor stands
unfoldable pub table_tests : Register → ℕ → ℕ → List Test
table_tests r actor moment =
    record { passed = sound r; refusal = Unsound }
    ∷ record { passed = leb actor id_limit && ltb moment moment_end; refusal = Range }
    ∷ record { passed = any (λ a. eqb actor a.id) (actors_of r.actors); refusal = Absent }
    ∷ []

abbrev pub table_on : Result Unit Refusal → Register → ℕ → ℕ → TableShown
table_on (Ok _) r actor moment = table_held r actor moment
table_on (Err why) r actor moment = table_none (Err why)

-- the cover table of an actor at a moment
unfoldable pub table_shown : Register → ℕ → ℕ → TableShown
table_shown r actor moment = table_on (outcome_of (table_tests r actor moment)) r actor moment
