-- Laws: A use that is looked up in the table is answered as the gate answers it: whether it is covered, its hop count, and for a machine whether its owner
-- covers it. Assumes nothing.
use Rattle.std.specs.Prelude.{◌≡◌, refl, Bool, true, false, not, ◌&&◌, List, [], ◌∷◌, map, ℕ, eqb}
use Rattle.std.proofs.Common.{ap, sym, ◌∙◌, eqb-true}
use Rattle.std.proofs.Math.Bool.{or-false}
use Rattle.lists.specs.Tests.{cases, clash, and_left, and_right, and_both, iff_same}
use Rattle.lists.specs.Lists.{any}
use Rattle.lists.specs.Each.{each_all, all_none, any_same, any_map, none_weaken}
use Rattle.rights.specs.Rights.{reading, is_right}
use Rattle.rights.specs.Laws.{had_right}
use Rattle.register.specs.Limits.{machine_kind}
use Rattle.register.specs.Register.{actors_of, resources_of, claims_of}
use Rattle.register.specs.declared.Actor.{Actor}
use Rattle.register.specs.declared.Resource.{Resource}
use Rattle.register.specs.declared.Register.{Register}
use Rattle.soundness_rules.specs.Sound.{sound}
use Rattle.soundness_rules.proofs.Registers.{sound_out}
use Rattle.actions.specs.declared.Usage.{Usage}
use Rattle.gate_rules.specs.Gate.{public_read, covering, covers, owner_lacks, first_of, reach_of, relied, hops_for}
use Rattle.gate_rules.specs.Places.{any_place, place_any, first_none, first_found}
use Rattle.gate_rules.proofs.Coverage.{covering_out, covers_none, not_covered_hops, absent_not_covered}
use Rattle.gate_rules.specs.Nearest.{nearest_none}
use Rattle.gate_rules.proofs.Trace.{distinct_place}
use Rattle.gate_rules.specs.Authority.{IsIn}
use Rattle.coverage_table.specs.Table.{Entry, nothing, cover_table, looked_up, is_nothing, entry_claim, entry_hops, open_entry, table_owner}
use Rattle.coverage_table.proofs.Filling.{remarks_added, lookup_there, lookup_past, lookup_absent, table_heard}
use Rattle.coverage_table.specs.Hearing.{heard}
use Rattle.coverage_table.proofs.Cells.{relying, heard_relied, relying_claim, relying_hops, relying_nothing}

-- an entry answers a use of x as the gate does
pub record Answers (r : Register) (moment x : ℕ) (u : Usage) (e : Entry) : Type 0 where
  pub lacks : is_nothing e ≡ not (covers r moment x u)
  pub claim : entry_claim e ≡ relied r moment x u
  pub hops : entry_hops e ≡ hops_for r moment x u

answers_same : (r : Register) (moment x : ℕ) (u v : Usage) (e f : Entry) → u ≡ v → e ≡ f → Answers r moment x u e → Answers r moment x v f
answers_same r moment x u v e f used entry told = rw (← used, ← entry) told

-- nothing answers what is not covered
answers_nothing : (r : Register) (moment x : ℕ) (u : Usage) → covers r moment x u ≡ false → Answers r moment x u nothing
answers_nothing r moment x u h = record {
  lacks = rw h;
  claim = sym (nearest_none (covering r moment x u) (λ c. reach_of r c.resource u.resource) (claims_of r.claims) (covers_none r moment x u h));
  hops = sym (not_covered_hops r moment x u h);
}

-- what is no right is not covered
past_not_covered : (r : Register) (moment x : ℕ) (u : Usage) → is_right u.right ≡ false → covers r moment x u ≡ false
unfolding covers public_read
past_not_covered r moment x u past =
    let unread : eqb u.right reading ≡ false =
    cases (eqb u.right reading) (λ e. clash (is_right u.right) (ap is_right (eqb-true u.right reading e)) past) (λ e. e) in
    rw unread
    (all_none (covering r moment x u) (claims_of r.claims) (each_all (λ M c. covering r moment x u c ≡ false)
    (λ M c. cases (covering r moment x u c)
    (λ e. clash (is_right u.right) (had_right c.rights u.right (covering_out r moment x u c e).has) past) (λ e. e)) (claims_of r.claims)))

-- the entry of the claim relied on answers the use
answers_relied : (r : Register) (moment x : ℕ) (o : Resource) (b : ℕ) → sound r ≡ true → IsIn (resources_of r.resources) o
    → Answers r moment x (record { resource = o.id; right = b }) (relying r moment x o b (relied r moment x (record { resource = o.id; right = b })))
unfolding hops_for
answers_relied r moment x o b h at = record {
  lacks = relying_nothing r moment x o b h at;
  claim = relying_claim r moment x o b (covering r moment x (record { resource = o.id; right = b })) (claims_of r.claims);
  hops = relying_hops r moment x o b (relied r moment x (record { resource = o.id; right = b }));
}

module _ (r : Register) (h : sound r ≡ true) where
  -- what is looked up of a resource that stands and a right is the entry of the claim relied on
  pub lookup_relied : (moment x : ℕ) (u : Usage) (o : Resource) → first_of (λ o. eqb u.resource o.id) (resources_of r.resources) ≡ o ∷ []
      → is_right u.right ≡ true
      → looked_up (cover_table r moment x) u ≡ relying r moment x o u.right (relied r moment x (record { resource = o.id; right = u.right }))
  lookup_relied moment x u o found right =
      ap (λ table. looked_up table u) (table_heard r moment x)
      ∙ lookup_there (λ o b. heard r x o b (remarks_added moment [] (claims_of r.claims)) (open_entry o b)) (resources_of r.resources) u o found right
      ∙ heard_relied r moment x o u.right h

  pub lookup_answers : (moment x : ℕ) (u : Usage) → Answers r moment x u (looked_up (cover_table r moment x) u)
  lookup_answers moment x u =
      let entries : Resource → ℕ → Entry = λ o b. heard r x o b (remarks_added moment [] (claims_of r.claims)) (open_entry o b) in
      let table = ap (λ table. looked_up table u) (table_heard r moment x) in
      cases (any (λ o. eqb u.resource o.id) (resources_of r.resources))
      (λ some. let found = first_found (λ o. eqb u.resource o.id) (resources_of r.resources) some in
      let o : Resource = found.0 in
      cases (is_right u.right)
      (λ right. answers_same r moment x (record { resource = o.id; right = u.right }) u
      (relying r moment x o u.right (relied r moment x (record { resource = o.id; right = u.right }))) (looked_up (cover_table r moment x) u)
      (ap (λ k. record { resource = k; right = u.right }) (sym (eqb-true u.resource o.id found.1.passes)))
      (sym (lookup_relied moment x u o found.1.alone right))
      (answers_relied r moment x o u.right h found.1.place))
      (λ past. answers_same r moment x u u nothing (looked_up (cover_table r moment x) u) refl
      (sym (table ∙ lookup_past entries (resources_of r.resources) u o found.1.alone past))
      (answers_nothing r moment x u (past_not_covered r moment x u past))))
      (λ none. answers_same r moment x u u nothing (looked_up (cover_table r moment x) u) refl
      (sym (table ∙ lookup_absent entries (resources_of r.resources) u (first_none (λ o. eqb u.resource o.id) (resources_of r.resources) none)))
      (answers_nothing r moment x u (absent_not_covered r moment x u none)))

-- where at most one passes a test, asking the first that does is asking any
first_only : {C : Type 0} (p q : C → Bool) (L : List C) → ((c d : C) → IsIn L c → IsIn L d → p c ≡ true → p d ≡ true → c ≡ d)
    → any q (first_of p L) ≡ any (λ c. p c && q c) L
first_only p q L one =
    cases (any p L)
    (λ some. let found = first_found p L some in
    ap (any q) found.1.alone ∙ or-false (q found.0)
    ∙ iff_same (q found.0) (any (λ c. p c && q c) L)
    (λ e. place_any (λ c. p c && q c) L found.0 found.1.place (and_both (p found.0) (q found.0) found.1.passes e))
    (λ e. let other = any_place (λ c. p c && q c) L e in
    let same = one other.0 found.0 other.1 found.1.place (and_left (p other.0) (q other.0) other.2) found.1.passes in
    ap q (sym same) ∙ and_right (p other.0) (q other.0) other.2))
    (λ none. ap (any q) (first_none p L none)
    ∙ sym (none_weaken (λ c. p c && q c) p (λ c. and_left (p c) (q c)) L none))

and_joined : (a b c d : Bool) → (a && (b && c)) && d ≡ a && (b && (c && d))
and_joined true true c d = refl
and_joined true false c d = refl
and_joined false b c d = refl

-- the owner's table says whether the owner lacks the use
pub owner_lacks_lem : (r : Register) → sound r ≡ true → (moment x : ℕ) (u : Usage)
    → any (λ table. is_nothing (looked_up table u)) (map (cover_table r moment) (table_owner r x)) ≡ owner_lacks r moment x u
unfolding owner_lacks
owner_lacks_lem r h moment x u =
    let actors : List Actor = actors_of r.actors in
    let owned : Actor → Bool = λ a. eqb x a.id && (eqb machine_kind a.kind && not (eqb a.owner 0)) in
    let lacking : Actor → Bool = λ a. not (covers r moment a.owner u) in
    any_map (cover_table r moment) (λ table. is_nothing (looked_up table u)) (table_owner r x)
    ∙ any_map (λ a. a.owner) (λ y. is_nothing (looked_up (cover_table r moment y) u)) (first_of owned actors)
    ∙ any_same (λ a. is_nothing (looked_up (cover_table r moment a.owner) u)) lacking (first_of owned actors)
    (each_all (λ M a. is_nothing (looked_up (cover_table r moment a.owner) u) ≡ lacking a)
    (λ M a. (lookup_answers r h moment a.owner u).lacks) (first_of owned actors))
    ∙ first_only owned lacking actors
    (λ a b at by named also. distinct_place (λ c. c.id) actors (sound_out r h).actors.apart a b at by
    (sym (eqb-true x a.id (and_left (eqb x a.id) (eqb machine_kind a.kind && not (eqb a.owner 0)) named))
    ∙ eqb-true x b.id (and_left (eqb x b.id) (eqb machine_kind b.kind && not (eqb b.owner 0)) also)))
    ∙ any_same (λ a. owned a && lacking a)
    (λ a. eqb x a.id && (eqb machine_kind a.kind && (not (eqb a.owner 0) && lacking a))) actors
    (each_all (λ M a. owned a && lacking a ≡ eqb x a.id && (eqb machine_kind a.kind && (not (eqb a.owner 0) && lacking a)))
    (λ M a. and_joined (eqb x a.id) (eqb machine_kind a.kind) (not (eqb a.owner 0)) (lacking a)) actors)
