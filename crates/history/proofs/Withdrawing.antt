-- Two withdrawals, one after the other, on any register: the same register in either order, and as many removed in all. It is asked of
-- each that striking others leaves its acceptance, or nothing that it names. Assumes nothing.
use Rattle.std.proofs.Common.{◌≡◌, refl, ap, sym, ◌∙◌, ◌⊎◌, ⊎_elim, Bool, true, false, ◌||◌, cond, List, ℕ, ◌+◌, ◌-◌, arith, length}
use mathlib.Core.Bool.{or_comm}
use lib.ListN.{length-reverse}
use Rattle.lists.specs.Tests.{cases}
use Rattle.lists.specs.Each.{each_all}
use Rattle.lists.specs.Lists.{All}
use Rattle.register.specs.Register.{claims_of}
use Rattle.register.specs.Chain.{latest}
use Rattle.register.specs.declared.Claim.{Claim}
use Rattle.register.specs.declared.Register.{Register}
use Rattle.soundness_rules.specs.Sound.{sound}
use Rattle.soundness_rules.proofs.Striking.{strike_none, strike_same, strike_strike}
use Rattle.change_rules.specs.Changes.{standing, unstruck, holding, Withdrawal, names, withdrawn}
use Rattle.history.specs.History.{withdraw, took}
use Rattle.soundness_rules.specs.Struck.{strike}
use Rattle.history.proofs.Holds.{claims_holding, standing_holding}
use Rattle.history.proofs.Laws.{left_counts}

abbrev pub accepted : Withdrawal → Register → Bool
accepted k r = took r (withdraw k)

-- what is left of the claims, latest first, and the register that holds it, when what P names goes with all drawn from it
abbrev pub leaving : (Claim → Bool) → List Claim → List Claim
leaving P L = strike (λ c. c.id) (λ c. c.parent) P L

abbrev pub without : (Claim → Bool) → Register → Register
without P r = holding r (unstruck P r)

-- the register that a withdrawal hands back, and how many it removes
abbrev pub after : Withdrawal → Register → Register
after k r = cond (accepted k r) (without (names k) r) r

abbrev pub went : Withdrawal → Register → ℕ
went k r = cond (accepted k r) (length (standing r) - length (unstruck (names k) r)) 0

withdrawn_after : (r : Register) (k : Withdrawal) → (withdrawn r k).register ≡ after k r
unfolding withdrawn
withdrawn_after r k = refl

withdrawn_went : (r : Register) (k : Withdrawal) → (withdrawn r k).removed ≡ went k r
unfolding withdrawn
withdrawn_went r k = refl

-- It is accepted in a sound register only, and where others are struck there it is accepted as before, or nothing that it names is left.
pub record Steady (k : Withdrawal) : Type 0 where
  pub judges : (r : Register) → accepted k r ≡ true → sound r ≡ true
  pub stays : (P : Claim → Bool) (r : Register) → sound r ≡ true
      → (accepted k (without P r) ≡ accepted k r) ⊎ All (λ c. names k c ≡ false) (leaving P (standing r))

after_accepted : (k : Withdrawal) (r : Register) → accepted k r ≡ true → after k r ≡ without (names k) r
after_accepted k r e = ap (λ b. cond b (without (names k) r) r) e

after_refused : (k : Withdrawal) (r : Register) → accepted k r ≡ false → after k r ≡ r
after_refused k r e = ap (λ b. cond b (without (names k) r) r) e

either_way : {A : Type 0} (a b : Bool) (x : A) → cond a x x ≡ cond b x x
either_way true true x = refl
either_way true false x = refl
either_way false true x = refl
either_way false false x = refl

-- a withdrawal behind a striking removes what it would remove alone
after_without : (k : Withdrawal) → Steady k → (P : Claim → Bool) (r : Register) → sound r ≡ true
    → after k (without P r) ≡ cond (accepted k r) (holding r (latest (leaving (names k) (leaving P (standing r))))) (without P r)
after_without k steady P r h =
    let K : List Claim = leaving P (standing r) in
    let twice : without (names k) (without P r) ≡ holding r (latest (leaving (names k) K)) =
    ap (λ M. holding r (latest (leaving (names k) M))) (standing_holding r K) in
    ap (λ s. cond (accepted k (without P r)) s (without P r)) twice
    ∙ ⊎_elim
    (λ same. ap (λ b. cond b (holding r (latest (leaving (names k) K))) (without P r)) same)
    (λ none. rw (strike_none (λ c. c.id) (λ c. c.parent) (names k) K none) (either_way (accepted k (without P r)) (accepted k r) (without P r)))
    (steady.stays P r h)

strike_either_order : (P Q : Claim → Bool) (L : List Claim) → leaving P (leaving Q L) ≡ leaving Q (leaving P L)
strike_either_order P Q L =
    strike_strike (λ c. c.id) (λ c. c.parent) P Q L
    ∙ strike_same (λ c. c.id) (λ c. c.parent) (λ c. P c || Q c) (λ c. Q c || P c) L (each_all _ (λ M c. or_comm (P c) (Q c)) L)
    ∙ sym (strike_strike (λ c. c.id) (λ c. c.parent) Q P L)

-- where the first is accepted
first_accepted : (k l : Withdrawal) → Steady k → Steady l → (r : Register) → accepted k r ≡ true → after l (after k r) ≡ after k (after l r)
first_accepted k l steady other r e =
    let h = steady.judges r e in
    let one : after l (after k r) ≡ cond (accepted l r) (holding r (latest (leaving (names l) (leaving (names k) (standing r))))) (without (names k) r) =
    ap (after l) (after_accepted k r e) ∙ after_without l other (names k) r h in
    cases (accepted l r)
    (λ f. one ∙ ap (λ b. cond b (holding r (latest (leaving (names l) (leaving (names k) (standing r))))) (without (names k) r)) f
    ∙ ap (λ K. holding r (latest K)) (strike_either_order (names l) (names k) (standing r))
    ∙ sym (ap (after k) (after_accepted l r f) ∙ after_without k steady (names l) r h
    ∙ ap (λ b. cond b (holding r (latest (leaving (names k) (leaving (names l) (standing r))))) (without (names l) r)) e))
    (λ f. one ∙ ap (λ b. cond b (holding r (latest (leaving (names l) (leaving (names k) (standing r))))) (without (names k) r)) f
    ∙ sym (ap (after k) (after_refused l r f) ∙ after_accepted k r e))

either_order : (k l : Withdrawal) → Steady k → Steady l → (r : Register) → after l (after k r) ≡ after k (after l r)
either_order k l steady other r =
    cases (accepted k r) (first_accepted k l steady other r) (λ e.
    cases (accepted l r) (λ f. sym (first_accepted l k other steady r f))
    (λ f. ap (after l) (after_refused k r e) ∙ after_refused l r f ∙ sym (ap (after k) (after_refused l r f) ∙ after_refused k r e)))

-- what went and what is left come to what stood
went_counts : (k : Withdrawal) (r : Register) → went k r + length (standing (after k r)) ≡ length (standing r)
went_counts k r = cases (accepted k r)
    (λ e. rw e (
    let survivors : length (standing (without (names k) r)) ≡ length (unstruck (names k) r) =
    length-reverse (claims_of (without (names k) r).claims) ∙ ap length (claims_holding r (unstruck (names k) r)) in
    omega (arith, survivors, left_counts (names k) r)))
    (λ e. rw e (omega arith))

either_sum : (k l : Withdrawal) → Steady k → Steady l → (r : Register) → went k r + went l (after k r) ≡ went l r + went k (after l r)
either_sum k l steady other r =
    let end : length (standing (after l (after k r))) ≡ length (standing (after k (after l r))) = ap (λ s. length (standing s)) (either_order k l steady other r) in
    omega (arith, end, went_counts k r, went_counts l (after k r), went_counts l r, went_counts k (after l r))

-- the same register in either order
pub withdraw_order : (k l : Withdrawal) → Steady k → Steady l → (r : Register)
    → (withdrawn (withdrawn r k).register l).register ≡ (withdrawn (withdrawn r l).register k).register
withdraw_order k l steady other r =
    withdrawn_after (withdrawn r k).register l ∙ ap (after l) (withdrawn_after r k)
    ∙ either_order k l steady other r
    ∙ sym (withdrawn_after (withdrawn r l).register k ∙ ap (after k) (withdrawn_after r l))

-- as many removed in all
pub withdraw_sum : (k l : Withdrawal) → Steady k → Steady l → (r : Register)
    → (withdrawn r k).removed + (withdrawn (withdrawn r k).register l).removed ≡ (withdrawn r l).removed + (withdrawn (withdrawn r l).register k).removed
withdraw_sum k l steady other r =
    rw (
      withdrawn_went r k,
      withdrawn_went (withdrawn r k).register l,
      withdrawn_after r k,
      withdrawn_went r l,
      withdrawn_went (withdrawn r l).register k,
      withdrawn_after r l,
    )
    (either_sum k l steady other r)
