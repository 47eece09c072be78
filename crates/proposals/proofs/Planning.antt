-- Laws: The planner's code may look at marks only: what it answers so is what is proposed. Assumes nothing.
use Rattle.std.specs.Prelude.{◌≡◌, refl, Bool, true, List, [], ◌∷◌, ◌++◌, map, ℕ, eqb, Err, Ok}
use Rattle.std.proofs.Math.Path.{ap, sym}
use Rattle.std.proofs.Common.{◌∙◌, eq-eqb}
use Rattle.std.proofs.Math.Bool.{false}
use Rattle.lists.specs.Tests.{cases, clash}
use Rattle.lists.specs.Lists.{any, All}
use Rattle.lists.specs.Each.{all_imp}
use Rattle.register.specs.Limits.{weight_limit}
use Rattle.register.specs.Register.{claims_of, Shaped}
use Rattle.register.specs.declared.Claim.{Claim}
use Rattle.register.specs.declared.Register.{Register}
use Rattle.refusals.specs.Refusals.{outcome_of}
use Rattle.refusals.proofs.Laws.{outcome_cases}
use Rattle.refusals.specs.declared.Refusal.{Refusal}
use Rattle.change_rules.specs.Changes.{world_in}
use Rattle.actions.specs.declared.Usage.{Usage}
use Rattle.gate_rules.specs.Gate.{first_of}
use Rattle.gate_rules.specs.Authority.{IsIn}
use Rattle.gate_rules.specs.Places.{any_place, place_any, each_place, first_hit, first_miss}
use Rattle.actions.specs.Actions.{one_use}
use Rattle.proposals.specs.Proposals.{signers_of, ask_tests, permits, passing_grant, candidate, signed_by, candidates, proposed_first, proposed}
use Rattle.proposals.specs.Marks.{clear, signable, signed_first, or_else, first_signed, by_marks_on, by_marks}
use Rattle.proposals.specs.declared.Signers.{Signers}
use Rattle.proposals.proofs.Exact.{asked_out, Clear, clear_out, passing_clear}
use Rattle.proposals.specs.Asked.{Asked}
use Rattle.proposals.proofs.Signing.{root_exact, below_exact}
use Rattle.proposals.specs.Proposing.{proposed_stopped, proposed_permitted, proposed_by, proposed_nothing}

first_nil : {A : Type 0} (p : A → Bool) → first_of p [] ≡ []
unfolding first_of
first_nil p = refl

-- the first of two lists that passes a test
first_append : (p : Claim → Bool) (L M : List Claim) → first_of p (L ++ M) ≡ or_else (first_of p L) (first_of p M)
first_append p [] M = rw (first_nil p)
first_append p (c ∷ L) M =
    cases (p c) (λ e. rw (first_hit p c (L ++ M) e, first_hit p c L e))
    (λ e. rw (first_miss p c (L ++ M) e, first_miss p c L e) (first_append p L M))

first_map : {A : Type 0} (f : A → Claim) (p : Claim → Bool) (L : List A) → first_of p (map f L) ≡ map f (first_of (λ a. p (f a)) L)
first_map f p [] = rw (first_nil p, first_nil (λ a. p (f a)))
first_map f p (a ∷ L) =
    cases (p (f a)) (λ e. rw (first_hit p (f a) (map f L) e, first_hit (λ a. p (f a)) a L e))
    (λ e. rw (first_miss p (f a) (map f L) e, first_miss (λ a. p (f a)) a L e) (first_map f p L))

first_same : {A : Type 0} (p q : A → Bool) (L : List A) → All (λ a. p a ≡ q a) L → first_of p L ≡ first_of q L
first_same p q [] h = first_nil p ∙ sym (first_nil q)
first_same p q (a ∷ L) h =
    cases (q a) (λ e. first_hit p a L (h.0 ∙ e) ∙ sym (first_hit q a L e))
    (λ e. first_miss p a L (h.0 ∙ e) ∙ first_same p q L h.1 ∙ sym (first_miss q a L e))

module _ (r : Register) (x : ℕ) (u : Usage) (moment : ℕ) (s : Signers) (shaped : Shaped r) where
  module _ (asked : Asked r x u moment) (fair : Clear r x u moment) where
    -- what one signer would sign first
    signed_first_lem : (g : ℕ) → any (eqb g) (signers_of s) ≡ true → first_of (passing_grant r x u moment s) (signed_by r x u g) ≡ signed_first r x u moment g
    signed_first_lem g willing =
        let p = passing_grant r x u moment s in
        let root : Claim = candidate r x u g 0 weight_limit in
        let below : Claim → Claim = λ q. candidate r x u g q.id q.weight in
        let exact = root_exact r x u moment s shaped asked fair g willing in
        cases ((world_in r).keeps g u.resource)
        (λ e. first_hit p root (map below (claims_of r.claims)) (exact ∙ e) ∙ rw e)
        (λ e. first_miss p root (map below (claims_of r.claims)) (exact ∙ e)
        ∙ first_map below p (claims_of r.claims)
        ∙ ap (map below) (first_same (λ q. p (below q)) (signable r x u moment g) (claims_of r.claims)
        (all_imp (λ q. IsIn (claims_of r.claims) q) (λ q. p (below q) ≡ signable r x u moment g q)
        (λ q at. below_exact r x u moment s shaped asked fair g willing q at) (claims_of r.claims) (each_place (claims_of r.claims))))
        ∙ rw e)

    -- what the first signer who would sign would sign
    first_signed_lem : (gs : List ℕ) → All (λ g. any (eqb g) (signers_of s) ≡ true) gs
        → first_of (passing_grant r x u moment s) (candidates r x u gs) ≡ first_signed r x u moment gs
    first_signed_lem [] willing = first_nil (passing_grant r x u moment s)
    first_signed_lem (g ∷ gs) willing =
        first_append (passing_grant r x u moment s) (signed_by r x u g) (candidates r x u gs)
        ∙ ap (λ L. or_else L (first_of (passing_grant r x u moment s) (candidates r x u gs))) (signed_first_lem g willing.0)
        ∙ ap (or_else (signed_first r x u moment g)) (first_signed_lem gs willing.1)

  -- the planner by marks, case by case
  by_marks_stopped : (why : Refusal) → outcome_of (ask_tests r x u moment s) ≡ Err why → by_marks r x u moment s ≡ proposed r x u moment s
  unfolding by_marks
  by_marks_stopped why e = ap (λ o. by_marks_on o r x u moment s) e ∙ sym (proposed_stopped r x u moment s why e)

  by_marks_permitted : outcome_of (ask_tests r x u moment s) ≡ Ok tt → permits r (one_use x u moment) ≡ true → by_marks r x u moment s ≡ proposed r x u moment s
  unfolding by_marks
  by_marks_permitted e k = ap (λ o. by_marks_on o r x u moment s) e ∙ rw k (sym (proposed_permitted r x u moment s e k))

  by_marks_clear : outcome_of (ask_tests r x u moment s) ≡ Ok tt → permits r (one_use x u moment) ≡ false → clear r x u moment ≡ true
      → by_marks r x u moment s ≡ proposed r x u moment s
  unfolding by_marks
  by_marks_clear e k c =
      ap (λ o. by_marks_on o r x u moment s) e
      ∙ rw (k, c) (ap proposed_first (sym (first_signed_lem (asked_out r x u moment s e) (clear_out r x u moment c) (signers_of s)
      (all_imp (λ g. IsIn (signers_of s) g) (λ g. any (eqb g) (signers_of s) ≡ true)
      (λ g at. place_any (eqb g) (signers_of s) g at (eq-eqb g g refl)) (signers_of s) (each_place (signers_of s))))))
      ∙ sym (proposed_by r x u moment s e k)

  by_marks_barred : outcome_of (ask_tests r x u moment s) ≡ Ok tt → permits r (one_use x u moment) ≡ false → clear r x u moment ≡ false
      → by_marks r x u moment s ≡ proposed r x u moment s
  unfolding by_marks
  by_marks_barred e k c =
      let hopeless : any (passing_grant r x u moment s) (candidates r x u (signers_of s)) ≡ false =
      cases (any (passing_grant r x u moment s) (candidates r x u (signers_of s)))
      (λ some. let found = any_place (passing_grant r x u moment s) (candidates r x u (signers_of s)) some in
      clash (clear r x u moment) (passing_clear r x u moment s found.0 shaped k found.2) c)
      (λ none. none) in
      ap (λ o. by_marks_on o r x u moment s) e ∙ rw (k, c) (sym (proposed_nothing r x u moment s e k hopeless))

  pub planned_proposed : by_marks r x u moment s ≡ proposed r x u moment s
  planned_proposed =
      outcome_cases (outcome_of (ask_tests r x u moment s))
      (λ e. cases (permits r (one_use x u moment)) (λ k. by_marks_permitted e k)
      (λ k. cases (clear r x u moment) (λ c. by_marks_clear e k c) (λ c. by_marks_barred e k c)))
      (λ why e. by_marks_stopped why e)
