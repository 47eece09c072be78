-- What the columns and the sheet answer is what 01 asks of the lists that they are of. Assumes nothing.
use Rattle.std.proofs.Common.{Option, ℕ, None, Some, Result, Err, Ok, ◌≡◌, sym, ap, ◌∙◌, refl, Bool, true, cond, [], ◌∷◌, List, ◌++◌, map, suc, ◌+◌, ◌-◌, ◌<◌, ◌≤◌, min, arith, eq-eqb, ne_eqb, eqb, ltb, length, take, get_or}
use Rattle.refusals.specs.declared.Refusal.{Refusal}
use mathlib.Core.Bool.{and-true}
use lib.ListN.{length-map}
use Rattle.lists.specs.Lists.{any, every}
use Rattle.lists.specs.Each.{any_reverse, every_map}
use Rattle.register.specs.Limits.{claim_limit, hop_limit, left_limit}
use Rattle.register.specs.Register.{claims_of, with_left}
use Rattle.register.specs.Chain.{above, current}
use Rattle.register.specs.Laws.{circling_map}
use Rattle.register.specs.declared.Claim.{Claim}
use Rattle.register.specs.declared.Register.{Register}
use Rattle.columns.specs.Columns.{claim_id, latest_place, places_up}
use Rattle.columns.specs.Laws.{among_natural, places_up_at, places_up_none}
use Rattle.columns.specs.Sheet.{sheet_of, column_of, claim_at, claims_in, id_column, parent_column, grantor_column, holder_column}
use Rattle.columns.specs.SheetLaws.{sheet_long, sheet_claims, column_natural}
use Rattle.lookup.specs.Finding.{earlier_places}
use Rattle.lookup.specs.Walks.{up_from, sheet_chain}
use Rattle.soundness_rules.specs.Sound.{names_stand, root_kept, sound, fewer_left, stored}
use Rattle.claim_judging.specs.Alone.{world_by}
use Rattle.claim_judging.specs.Over.{hands_at}
use Rattle.refusals.specs.Refusals.{outcome_of}
use Rattle.refusals.proofs.Laws.{outcome_nil, outcome_cases, outcome_first}
use Rattle.refusals.specs.declared.Refusal.TheVariants.{NoParent}
use Rattle.change_rules.specs.Changes.{standing, parent_tests, grant_tests}
use Rattle.granting.specs.Drawn.{chain_tests, drawn_tests, parent_asked}
use Rattle.granting.specs.Settled.{settled_as, grant_outcome}
use Rattle.granting.specs.declared.GrantOutcome.{GrantOutcome}
use Rattle.granting.proofs.Deciding.{parent_absent, parent_present}

-- what of the world is not looked at is all one
module _ (names kinds owners : List ℕ) (h : ℕ) (reports keepers : List ℕ) (m : ℕ) (c : Claim) {b : Bool} where
  pub names_asked : b ≡ names_stand (world_by 0 names [] [] h reports [] m) c → b ≡ names_stand (world_by 0 names kinds owners h reports keepers m) c
  unfolding names_stand
  names_asked e = e

  pub root_asked : b ≡ root_kept (world_by 0 [] [] [] 0 reports keepers m) c → b ≡ root_kept (world_by 0 names kinds owners h reports keepers m) c
  unfolding root_kept
  root_asked e = e

-- what is asked of the places of a chain is asked of the claims there
chain_asked : (fewer : Bool) (f : ℕ → Claim) (l : List ℕ) (h : ℕ)
    → chain_tests (λ i. (f i).grantor) (λ i. (f i).holder) fewer l h ≡ chain_tests (λ d. d.grantor) (λ d. d.holder) fewer (map f l) h
unfolding chain_tests
chain_asked fewer f l h = rw (circling_map f (λ d. d.grantor) (λ d. d.holder) l h)

-- and of columns that are the same
pub chain_columns : (fewer : Bool) (l : List ℕ) (x : ℕ) {g h grantors holders : List ℕ} {y : Result Unit Refusal} → g ≡ grantors → h ≡ holders
    → y ≡ outcome_of (chain_tests (λ j. get_or g j 0) (λ j. get_or h j 0) fewer l x)
    → y ≡ outcome_of (chain_tests (λ j. get_or grantors j 0) (λ j. get_or holders j 0) fewer l x)
chain_columns fewer l x {g} {h} {grantors} {holders} granted held e =
    e
    ∙ ap (λ c. outcome_of (chain_tests (λ j. get_or c j 0) (λ j. get_or h j 0) fewer l x)) granted
    ∙ ap (λ c. outcome_of (chain_tests (λ j. get_or grantors j 0) (λ j. get_or c j 0) fewer l x)) held

-- a walk has come to a place, for which `up` is kept, and whether all are current, e, is asked of that place and of those above it
pub record Walk (p : ℕ → Bool) (ups : List ℕ) (at up : ℕ) (e : Bool) : Type 0 where
  pub next : up ≡ get_or ups at at
  pub ahead : e ≡ every p (at ∷ places_up ups at)

module _ {p : ℕ → Bool} {ups : List ℕ} {at up : ℕ} {e : Bool} (s : Walk p ups at up e) where
  pub walk_root : at ≤ up → e ≡ p at
  walk_root h = s.ahead ∙ rw (places_up_none ups at (rw (← s.next) h)) (and-true (p at))

  pub walk_above : up < at → p at ≡ true → {higher : ℕ} → higher ≡ get_or ups up up → Walk p ups up higher e
  walk_above h passed u =
      let more : places_up ups at ≡ up ∷ places_up ups up = rw s.next (places_up_at ups at (rw (← s.next) h)) in
      record { next = u; ahead = s.ahead ∙ rw passed (ap (every p) more) }

-- a walk that counts its steps has come to a place, for which `up` is kept
pub record Stepping (ups : List ℕ) (from member up steps : ℕ) : Type 0 where
  pub within : steps + member ≤ from
  pub next : up ≡ get_or ups member member
  pub ahead : steps + length (places_up ups member) ≡ length (places_up ups from)

module _ {ups : List ℕ} {from member up steps : ℕ} (s : Stepping ups from member up steps) where
  pub stepping_next : up < member → {higher : ℕ} → higher ≡ get_or ups up up → Stepping ups from up higher (steps + 1)
  stepping_next h u =
      let more : places_up ups member ≡ up ∷ places_up ups up = rw s.next (places_up_at ups member (rw (← s.next) h)) in
      record { within = omega (arith, s.within, h); next = u; ahead = omega (arith, s.ahead, ap length more) }

  pub stepping_done : member ≤ up → steps ≡ length (places_up ups from)
  stepping_done h = omega (arith, s.ahead, ap length (places_up_none ups member (rw (← s.next) h)))

-- tests 9 to 16, over the chain above a claim c by the places
module _ (version : ℕ) (s ups : List ℕ) (place : Option ℕ) (c : Claim) (moment : ℕ) where
  pub root_passes : c.parent ≡ 0 → outcome_of (parent_asked version s ups place c moment) ≡ Ok tt
  root_passes z = rw (eq-eqb c.parent 0 z) outcome_nil

  module _ (o : c.parent ≡ 0 → ⊥) where
    pub parent_nowhere : place ≡ None → outcome_of (parent_asked version s ups place c moment) ≡ Err NoParent
    parent_nowhere q = rw (ne_eqb c.parent 0 o, q) (parent_absent version moment [] c refl)

    pub parent_at : {at : ℕ} → place ≡ Some at → {p : Claim} → p ≡ claim_at s at → {lives : Bool}
        → lives ≡ every (λ j. current moment (claim_at s j)) (at ∷ places_up ups at)
        → outcome_of (parent_asked version s ups place c moment) ≡ outcome_of (drawn_tests lives p c ++ chain_tests (λ j. get_or (column_of grantor_column s) j 0) (λ j. get_or (column_of holder_column s) j 0)
        (ltb (hands_at version (suc (length (places_up ups at))) c) (hands_at version (length (places_up ups at)) p)) (at ∷ places_up ups at) c.holder)
    parent_at {at} q {p} read {lives} living =
        let higher : List Claim = map (claim_at s) (places_up ups at) in
        let fewer : Bool = fewer_left version (claim_at s at) higher c in
        rw (ne_eqb c.parent 0 o, q)
        (parent_present version moment (claim_at s at ∷ higher) c refl
        ∙ ap (λ b. outcome_of (drawn_tests b (claim_at s at) c ++ chain_tests (λ d. d.grantor) (λ d. d.holder) fewer (claim_at s at ∷ higher) c.holder))
        (every_map (claim_at s) (current moment) (at ∷ places_up ups at) ∙ sym living)
        ∙ ap (λ tests. outcome_of (drawn_tests lives (claim_at s at) c ++ tests)) (sym (chain_asked fewer (claim_at s) (at ∷ places_up ups at) c.holder))
        ∙ ap (λ n. outcome_of (drawn_tests lives (claim_at s at) c ++ chain_tests (λ j. (claim_at s j).grantor) (λ j. (claim_at s j).holder)
        (ltb (hands_at version (suc n) c) (hands_at version n (claim_at s at))) (at ∷ places_up ups at) c.holder))
        (length-map (places_up ups at) (claim_at s))
        ∙ ap (λ d. outcome_of (drawn_tests lives d c ++ chain_tests (λ j. (claim_at s j).grantor) (λ j. (claim_at s j).holder)
        (ltb (hands_at version (suc (length (places_up ups at))) c) (hands_at version (length (places_up ups at)) d)) (at ∷ places_up ups at) c.holder))
        (sym read))

-- an accepted grant finds the register sound
sound_first : (r : Register) (c : Claim) (moment : ℕ) → outcome_of (grant_tests r c moment) ≡ Ok tt → sound r ≡ true
unfolding grant_tests
sound_first r c moment q = (outcome_first _ _ q).0

-- the claims of a register by its sheet
module _ (r : Register) (long : length r.claims.list ≡ claim_limit) (c : Claim) where
  abbrev sheet : List ℕ
  sheet = sheet_of r.claims

  pub stands_asked : any (eqb c.id) (take r.claims.count (column_of id_column sheet)) ≡ any (λ d. eqb c.id d.id) (standing r)
  stands_asked =
      ap (λ l. any (eqb c.id) (take r.claims.count l)) (column_natural sheet (sheet_long r.claims) claim_id id_column (omega arith) (λ g. refl))
      ∙ among_natural claim_id c.id r.claims.count (claims_in sheet)
      ∙ ap (any (λ d. eqb c.id d.id)) (sheet_claims r.claims long)
      ∙ sym (any_reverse (λ d. eqb c.id d.id) (claims_of r.claims))

  -- the places from that of the parent up
  abbrev parent_places : List ℕ
  parent_places =
      up_from (earlier_places (column_of id_column sheet) (column_of parent_column sheet) r.claims.count) (latest_place (column_of id_column sheet) r.claims.count c.parent)

  pub parent_asked_lem : (moment : ℕ) → sound r ≡ true
      → cond (eqb c.parent 0) [] (parent_tests r.version moment (map (claim_at sheet) parent_places) c)
      ≡ cond (eqb c.parent 0) [] (parent_tests r.version moment (above (standing r) c) c)
  parent_asked_lem moment whole = ap (λ l. cond (eqb c.parent 0) [] (parent_tests r.version moment l c)) (sheet_chain r long whole c.parent)

  -- the hops that are counted leave as many hands as the chain does
  hands_told : sound r ≡ true → with_left (hands_at r.version (min (length parent_places) (suc hop_limit)) c) c ≡ stored r.version (standing r) c
  hands_told whole =
      let many : length parent_places ≡ length (above (standing r) c) =
      sym (length-map parent_places (claim_at sheet)) ∙ ap length (sheet_chain r long whole c.parent) in
      let left : left_limit - min (length parent_places) (suc hop_limit) ≡ left_limit - length (above (standing r) c) = omega (arith, many) in
      rw left

  -- the claim beside the outcome is the one that is stored
  pub settled_told : (moment : ℕ) {outcome : Result Unit Refusal} {hops : ℕ} {y : GrantOutcome} → outcome ≡ outcome_of (grant_tests r c moment)
      → hops ≡ min (length parent_places) (suc hop_limit) → y ≡ settled_as outcome r.version hops c → y ≡ grant_outcome r c moment
  unfolding grant_outcome
  settled_told moment {outcome} decided counted told =
      told
      ∙ outcome_cases outcome
      (λ accepted. let agreed : outcome_of (grant_tests r c moment) ≡ (Ok tt) = sym decided ∙ accepted in
      rw (accepted, agreed, counted, hands_told (sound_first r c moment agreed)))
      (λ why refused. let denied : outcome_of (grant_tests r c moment) ≡ Err why = sym decided ∙ refused in rw (refused, denied))
