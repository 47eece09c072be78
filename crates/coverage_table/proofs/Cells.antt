-- Laws: A cell after the walk has the claim relied on, where there is one: its walk is the one by which the nearest is found. Assumes nothing.
use Rattle.std.specs.Prelude.{◌≡◌, Bool, true, false, not, cond, ◌&&◌, List, [], ◌∷◌, map, ℕ, suc, leb}
use Rattle.std.proofs.Math.Path.{refl, ap}
use Rattle.std.proofs.Common.{sym, ◌∙◌, arith, eqb-true, eq-eqb, le-leb, leb-true, leb-false}
use Rattle.std.proofs.lemmas.Bool.{lt-leb}
use Rattle.std.proofs.Math.Dec.{eqb}
use Rattle.lists.specs.Tests.{cases, and_left, and_right, iff_same}
use Rattle.lists.specs.Lists.{any, distinct}
use Rattle.rights.specs.Rights.{reading}
use Rattle.register.specs.Register.{resources_of, claims_of}
use Rattle.register.specs.Chain.{latest, hops_of}
use Rattle.register.specs.declared.Resource.{Resource}
use Rattle.register.specs.declared.Claim.{Claim}
use Rattle.register.specs.declared.Register.{Register}
use Rattle.soundness_rules.specs.Sound.{sound}
use Rattle.soundness_rules.proofs.Registers.{sound_out}
use Rattle.actions.specs.declared.Usage.{Usage}
use Rattle.gate_rules.specs.Gate.{public_read, covering, covers, reach_of, nearest_of, relied, hops_in}
use Rattle.gate_rules.specs.Places.{any_place, place_any}
use Rattle.gate_rules.specs.Nearest.{nearer_from, nearest_walked, nearest_found, nearest_none}
use Rattle.gate_rules.proofs.Trace.{distinct_place}
use Rattle.gate_rules.specs.Authority.{IsIn}
use Rattle.coverage_table.specs.Table.{Entry, claimed, is_open, open_entry, speaks, keeps_off, is_nothing, entry_claim, entry_hops}
use Rattle.coverage_table.specs.Hearing.{remark_among, heard}
use Rattle.coverage_table.proofs.Filling.{remarks_added, added_sound}

-- what is not as long or shorter is longer
not_leb : (m n : ℕ) → not (leb m n) ≡ leb (suc n) m
not_leb m n =
    cases (leb m n)
    (λ e. let below = leb-true m n e in rw (e, lt-leb (suc n) m (omega (arith, below))))
    (λ e. let above = leb-false m n e in rw (e, le-leb (suc n) m (omega (arith, above))))

-- a cell that no claim has spoken in keeps none off
open_keeps : (o : Resource) (b len : ℕ) → keeps_off (open_entry o b) len ≡ false
open_keeps o b len = cases (is_open o b) (λ e. rw e) (λ e. rw e)

-- where numbers are distinct, what holds of any with a number is what holds of the one that has it
pub any_named : {C : Type 0} (f : C → ℕ) (q : C → Bool) (L : List C) → distinct (map f L) ≡ true → (c : C) → IsIn L c → any (λ d. eqb (f c) (f d) && q d) L ≡ q c
any_named {C} f q L apart c at =
    iff_same (any (λ d. eqb (f c) (f d) && q d) L) (q c)
    (λ some. let found = any_place (λ d. eqb (f c) (f d) && q d) L some in
    let one : found.0 ≡ c = distinct_place f L apart found.0 c found.1 at
    (sym (eqb-true (f c) (f found.0) (and_left (eqb (f c) (f found.0)) (q found.0) found.2))) in
    ap q (sym one) ∙ and_right (eqb (f c) (f found.0)) (q found.0) found.2)
    (λ e. place_any (λ d. eqb (f c) (f d) && q d) L c at (rw (eq-eqb (f c) (f c) refl, e)))

module _ (r : Register) (moment x : ℕ) (o : Resource) (b : ℕ) where
  abbrev usage : Usage
  usage = record { resource = o.id; right = b }

  abbrev far : Claim → ℕ
  far c = reach_of r c.resource o.id

  -- the entry that the claim relied on gives a cell, if there is one
  abbrev pub relying : List Claim → Entry
  relying [] = open_entry o b
  relying (c ∷ more) = claimed c (hops_of (latest (claims_of r.claims)) c) (far c)

  speaks_covering : (c : Claim) → speaks r x o b (remark_among moment (latest (claims_of r.claims)) c) ≡ covering r moment x usage c
  unfolding speaks covering
  speaks_covering c = refl

  heard_nearer : (cs best : List Claim) (bar : ℕ) → ((len : ℕ) → not (keeps_off (relying best) len) ≡ leb bar len)
      → heard r x o b (map (remark_among moment (latest (claims_of r.claims))) cs) (relying best)
      ≡ relying (nearer_from (covering r moment x usage) far best bar cs)
  heard_nearer [] best bar h = refl
  heard_nearer (c ∷ cs) best bar h =
      let taken : speaks r x o b (remark_among moment (latest (claims_of r.claims)) c) && not (keeps_off (relying best) (far c))
      ≡ covering r moment x usage c && leb bar (far c) = rw (speaks_covering c, h (far c)) in
      ap (λ t. heard r x o b (map (remark_among moment (latest (claims_of r.claims))) cs) (cond t (relying (c ∷ [])) (relying best))) taken
      ∙ cases (covering r moment x usage c && leb bar (far c))
      (λ e. rw e (heard_nearer cs (c ∷ []) (suc (far c)) (λ len. not_leb len (far c))))
      (λ e. rw e (heard_nearer cs best bar h))

  -- the cell of a sound register
  pub heard_relied : sound r ≡ true
      → heard r x o b (remarks_added moment [] (claims_of r.claims)) (open_entry o b) ≡ relying (relied r moment x usage)
  heard_relied h =
      ap (λ l. heard r x o b l (open_entry o b)) (added_sound r moment x h)
      ∙ heard_nearer (claims_of r.claims) [] 0 (λ len. rw (open_keeps o b len, le-leb 0 len (omega arith)))
      ∙ ap relying (sym (nearest_walked (covering r moment x usage) far (claims_of r.claims)))

  -- its claim is the claim relied on
  pub relying_claim : (p : Claim → Bool) (L : List Claim) → entry_claim (relying (nearest_of p far L)) ≡ nearest_of p far L
  relying_claim p L =
      cases (any p L)
      (λ some. let found = nearest_found p far L some in rw found.1.alone)
      (λ none. rw (nearest_none p far L none) (cases (is_open o b) (λ e. rw e) (λ e. rw e)))

  -- its hop count is that of the claim relied on
  pub relying_hops : (L : List Claim) → entry_hops (relying L) ≡ hops_in r L
  relying_hops [] = cases (is_open o b) (λ e. rw e) (λ e. rw e)
  relying_hops (c ∷ L) = refl

  -- a resource that stands is public by its number where it is
  public_place : sound r ≡ true → IsIn (resources_of r.resources) o → public_read r usage ≡ is_open o b
  unfolding public_read
  public_place h at =
      ap (λ t. eqb b reading && t)
      (any_named (λ q. q.id) (λ q. eqb q.public 1) (resources_of r.resources) (sound_out r h).resources.apart o at)

  -- and it has nothing exactly where x does not cover the use
  pub relying_nothing : sound r ≡ true → IsIn (resources_of r.resources) o → is_nothing (relying (relied r moment x usage)) ≡ not (covers r moment x usage)
  unfolding covers
  relying_nothing h at =
      cases (any (covering r moment x usage) (claims_of r.claims))
      (λ some. let found = nearest_found (covering r moment x usage) far (claims_of r.claims) some in
      ap (λ l. is_nothing (relying l)) found.1.alone
      ∙ rw some (cases (public_read r usage) (λ e. rw e) (λ e. rw e)))
      (λ none. ap (λ l. is_nothing (relying l)) (nearest_none (covering r moment x usage) far (claims_of r.claims) none)
      ∙ rw (none, public_place h at) (cases (is_open o b) (λ e. rw e) (λ e. rw e)))
