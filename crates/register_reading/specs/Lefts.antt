-- Working: The line `left`, which version 2 alone has, and the hops of a claim by what is kept of those before it. They are shaped for the code; what they
-- come to is proved in Runs (`run_left`) and proofs/Storing (`hops_chain`).
use Rattle.std.specs.Prelude.{cond, List, ◌++◌, map, ℕ, ◌+◌, eqb, leb, get_or, take, drop}
use Rattle.register.specs.Limits.{claim_limit, left_limit, tells_left}
use Rattle.register.specs.Chain.{latest}
use Rattle.register.specs.declared.Claim.{Claim}
use Rattle.register.specs.declared.Claims.{Claims}
use Rattle.columns.specs.Columns.{claim_id, parent_of}
use Rattle.soundness_rules.specs.Sound.{each_stored}
use Rattle.lines.specs.Reading.{State, Read, LineForm, number, read_form}
use Rattle.text_rules.specs.Keys.{left_key}
use Rattle.register_reading.specs.declared.Links.{Links}

-- the line of the hands left
abbrev pub left_form : LineForm
left_form = number left_key 0 left_limit

-- it is read in version 2; otherwise 0 stands for it
unfoldable pub read_left : ℕ → State → Read ℕ
read_left version st = cond (tells_left version) (read_form left_form st) (record { value = 0; state = st })

-- the hops of a claim by its parent's number, the place that its parent stands at, the claims' limit for none, and the hops of those before it
abbrev pub hops_by : List ℕ → ℕ → ℕ → ℕ
hops_by hops parent up = cond (eqb parent 0) 0 (cond (leb claim_limit up) 0 (get_or hops up 0 + 1))

-- the ids and the parents of claims
abbrev pub links_of : List Claim → Links
links_of cs = record { ids = map claim_id cs; parents = map parent_of cs }

-- the claims that stand in a list, each with the hands that it has left; what is behind them as it came
abbrev pub stored_in : ℕ → Claims → Claims
stored_in version k = record {
  list = latest (each_stored version (latest (take k.count k.list))) ++ drop k.count k.list;
  count = k.count;
}
