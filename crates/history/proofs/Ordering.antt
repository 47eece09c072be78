-- Two withdrawals, one after the other: what the second is told, and that each is steady. Assumes nothing.
use Rattle.std.proofs.Common.{Result, Err, Ok, ◌≡◌, refl, ap, sym, ◌∙◌, inl, inr, ⊎_elim, Bool, true, false, not, ◌&&◌, cond, List, ℕ, ◌+◌, ◌<◌, ne_eqb, eq-eqb, eqb}
use Rattle.refusals.specs.declared.Refusal.{Refusal}
use mathlib.Core.Bool.{and-false, false≢true}
use Rattle.lists.specs.Tests.{cases, clash, and_left, and_right}
use Rattle.lists.specs.Lists.{any, All}
use Rattle.lists.specs.Each.{none_all, none_weaken}
use Rattle.register.specs.Chain.{chain, numbered}
use Rattle.register.specs.Laws.{chain_ind, numbered_own, numbered_id}
use Rattle.register.specs.declared.Claim.{Claim}
use Rattle.register.specs.declared.Register.{Register}
use Rattle.soundness_rules.specs.Sound.{sound}
use Rattle.soundness_rules.proofs.Registers.{sound_out}
use Rattle.soundness_rules.proofs.Striking.{Distinct, strike_sound, chain_strike, chain_gone, sound_distinct}
use Rattle.refusals.specs.Refusals.{outcome_of, is_accepted}
use Rattle.change_rules.specs.Changes.{world_in, standing, revoke_tests, Withdrawal, revoke, clear_resource, clear_expired, names, clear_resource_tests, clear_expired_tests, withdrawn}
use Rattle.refusals.proofs.Laws.{outcome_pass}
use Rattle.refusals.specs.declared.Refusal.TheVariants.{Unsound, Absent, NoClaim, NoGrantor}
use Rattle.history.specs.History.{took, withdraw}
use Rattle.history.proofs.Changing.{refused_register, took_sound, withdrawn_register}
use Rattle.history.proofs.Holds.{standing_holding, without_sound}
use Rattle.history.specs.Order.{AcceptedOrBarred, is_absent, turns_absent, takes, SecondTold, loses}
use Rattle.history.proofs.Withdrawing.{leaving, without, Steady}
use Rattle.history.proofs.Withdrawing as withdrawing

abbrev chain_from : List Claim → ℕ → List Claim
chain_from L y = chain (λ c. c.id) (λ c. c.parent) L y

abbrev stands : List Claim → ℕ → Bool
stands L y = any (λ c. eqb c.id y) L

-- a number stands exactly where it has a chain
stands_chain : (L : List Claim) (y : ℕ) → Distinct (λ c. c.id) (λ c. c.parent) L → stands L y ≡ any (λ c. true) (chain_from L y)
stands_chain = chain_ind (λ c. c.id) (λ c. c.parent) (λ L y H. Distinct (λ c. c.id) (λ c. c.parent) L → stands L y ≡ any (λ c. true) H)
    (λ y d. refl)
    (λ c L y e ih d. rw (eq-eqb c.id y (numbered_id (λ c. c.id) (λ c. c.parent) y c e)))
    (λ c L y e ih d. rw (other c y e d.0.0) (ih d.1))
  where
    other : (c : Claim) (y : ℕ) → numbered (λ c. c.id) (λ c. c.parent) y c ≡ false → 0 < c.id → eqb c.id y ≡ false
    other c y e above = ne_eqb c.id y (λ same.
        clash (numbered (λ c. c.id) (λ c. c.parent) y c) (rw (← same) (numbered_own (λ c. c.id) (λ c. c.parent) c above)) e)

-- what the four tests of a revocation tell
abbrev tell : Bool → Bool → Bool → Bool → Result Unit Refusal
tell judged known standing granting =
    cond judged (cond known (cond standing (cond granting (Ok tt) (Err NoGrantor)) (Err NoClaim)) (Err Absent)) (Err Unsound)

told_by : (r : Register) (w y : ℕ) → (withdrawn r (revoke w y)).outcome
    ≡ tell (sound r) ((world_in r).known w) (stands (standing r) y) (any (λ c. eqb c.grantor w) (chain_from (standing r) y))
unfolding withdrawn revoke_tests outcome_of
told_by r w y = refl

distinct_standing : (r : Register) → sound r ≡ true → Distinct (λ c. c.id) (λ c. c.parent) (standing r)
distinct_standing r h = sound_distinct (world_in r) (standing r) (sound_out r h).claims

-- what has something named on its chain stands
named_stands : (P : Claim → Bool) (r : Register) → sound r ≡ true → (y : ℕ) → any P (chain_from (standing r) y) ≡ true → stands (standing r) y ≡ true
named_stands P r h y e =
    stands_chain (standing r) y (distinct_standing r h)
    ∙ cases (any (λ c. true) (chain_from (standing r) y)) (λ f. f)
    (λ f. clash (any P (chain_from (standing r) y)) e (none_weaken P (λ c. true) (λ c k. refl) (chain_from (standing r) y) f))

module _ (P : Claim → Bool) (r : Register) (h : sound r ≡ true) where
  distinct_left : Distinct (λ c. c.id) (λ c. c.parent) (leaving P (standing r))
  distinct_left = sound_distinct (world_in r) (leaving P (standing r)) (strike_sound (world_in r) P (standing r) (sound_out r h).claims)

  -- with something named on its chain a claim does not stand afterwards
  gone_stands : (y : ℕ) → any P (chain_from (standing r) y) ≡ true → stands (leaving P (standing r)) y ≡ false
  gone_stands y e = stands_chain (leaving P (standing r)) y distinct_left
      ∙ ap (any (λ c. true)) (chain_gone (λ c. c.id) (λ c. c.parent) P (standing r) y (distinct_standing r h) e)

  -- with nothing named on its chain it stands as before
  kept_stands : (y : ℕ) → any P (chain_from (standing r) y) ≡ false → stands (leaving P (standing r)) y ≡ stands (standing r) y
  kept_stands y e = stands_chain (leaving P (standing r)) y distinct_left
      ∙ ap (any (λ c. true)) (chain_strike (λ c. c.id) (λ c. c.parent) P (standing r) y e) ∙ sym (stands_chain (standing r) y (distinct_standing r h))

  -- what a revocation is told behind a striking
  revoke_without : (who y : ℕ) → (withdrawn (without P r) (revoke who y)).outcome
      ≡ cond ((world_in r).known who && any P (chain_from (standing r) y)) (Err NoClaim) (withdrawn r (revoke who y)).outcome
  revoke_without who y =
      told_by (without P r) who y
      ∙ rw (without_sound r P h, standing_holding r (leaving P (standing r)), told_by r who y, h) (
      cases ((world_in r).known who) (λ known. rw known (
      cases (any P (chain_from (standing r) y))
      (λ e. rw (e, gone_stands y e))
      (λ e. rw (e, kept_stands y e, chain_strike (λ c. c.id) (λ c. c.parent) P (standing r) y e))))
      (λ unknown. rw unknown))

  -- a clearing looks at the claims for their soundness alone, and that stays
  clear_resource_without : (who o : ℕ) → (withdrawn (without P r) (clear_resource who o)).outcome ≡ (withdrawn r (clear_resource who o)).outcome
  unfolding withdrawn clear_resource_tests
  clear_resource_without who o = outcome_pass _ _ (without_sound r P h) ∙ sym (outcome_pass _ _ h)

  clear_expired_without : (who moment : ℕ) → (withdrawn (without P r) (clear_expired who moment)).outcome ≡ (withdrawn r (clear_expired who moment)).outcome
  unfolding withdrawn clear_expired_tests
  clear_expired_without who moment = outcome_pass _ _ (without_sound r P h) ∙ sym (outcome_pass _ _ h)

  -- what a withdrawal is told behind a striking
  told_without : (w : Withdrawal) → (withdrawn (without P r) w).outcome ≡ cond (loses r P w) (Err NoClaim) (withdrawn r w).outcome
  told_without (revoke who y) = revoke_without who y
  told_without (clear_resource who o) = clear_resource_without who o
  told_without (clear_expired who moment) = clear_expired_without who moment

  -- one that loses its claim names nothing that is left
  lost_none : (w : Withdrawal) → loses r P w ≡ true → All (λ c. names w c ≡ false) (leaving P (standing r))
  lost_none (revoke who y) e = none_all (λ c. eqb c.id y) (leaving P (standing r))
      (gone_stands y (and_right ((world_in r).known who) (any P (chain_from (standing r) y)) e))
  lost_none (clear_resource who o) e = absurd (false≢true e)
  lost_none (clear_expired who moment) e = absurd (false≢true e)

steady : (w : Withdrawal) → Steady w
steady w = record {
  judges = λ r e. took_sound r w e;
  stays = λ P r h. cases (loses r P w)
      (λ e. inr (lost_none P r h w e))
      (λ e. inl (ap is_accepted (told_without P r h w ∙ ap (λ b. cond b (Err NoClaim) (withdrawn r w).outcome) e)));
}

-- the same register in either order
pub withdraw_order : (r : Register) (v w : Withdrawal)
    → (withdrawn (withdrawn r v).register w).register ≡ (withdrawn (withdrawn r w).register v).register
withdraw_order r v w = withdrawing.withdraw_order v w (steady v) (steady w) r

-- as many removed in all
pub withdraw_sum : (r : Register) (v w : Withdrawal)
    → (withdrawn r v).removed + (withdrawn (withdrawn r v).register w).removed ≡ (withdrawn r w).removed + (withdrawn (withdrawn r w).register v).removed
withdraw_sum r v w = withdrawing.withdraw_sum v w (steady v) (steady w) r

-- the call that comes second is told 17 where the first takes its claim, and otherwise as alone
second_told : (r : Register) (v w : Withdrawal)
    → (withdrawn (withdrawn r v).register w).outcome ≡ cond (takes r v w) (Err NoClaim) (withdrawn r w).outcome
second_told r v w = cases (took r (withdraw v))
    (λ e. ap (λ s. (withdrawn s w).outcome) (withdrawn_register r v e)
    ∙ told_without (names v) r (took_sound r v e) w
    ∙ ap (λ b. cond (b && loses r (names v) w) (Err NoClaim) (withdrawn r w).outcome) (sym e))
    (λ e. ap (λ s. (withdrawn s w).outcome) (refused_register r (withdraw v) e)
    ∙ ap (λ b. cond (b && loses r (names v) w) (Err NoClaim) (withdrawn r w).outcome) (sym e))

-- where the first takes nothing from it, the second is told as alone
untaken_told : (r : Register) (v w : Withdrawal) → takes r v w ≡ false → (withdrawn (withdrawn r v).register w).outcome ≡ (withdrawn r w).outcome
untaken_told r v w e = second_told r v w ∙ ap (λ b. cond b (Err NoClaim) (withdrawn r w).outcome) e

pub withdraw_second : (r : Register) (v w : Withdrawal) → SecondTold w (withdrawn r w).outcome (withdrawn (withdrawn r v).register w).outcome
withdraw_second r v (revoke who y) = cases (takes r v (revoke who y))
    (λ e. inr (second_told r v (revoke who y) ∙ ap (λ b. cond b (Err NoClaim) (withdrawn r (revoke who y)).outcome) e))
    (λ e. inl (untaken_told r v (revoke who y) e))
withdraw_second r v (clear_resource who o) = untaken_told r v (clear_resource who o) (and-false (took r (withdraw v)))
withdraw_second r v (clear_expired who moment) = untaken_told r v (clear_expired who moment) (and-false (took r (withdraw v)))

-- a revocation whose claim another withdrawal takes would have passed tests 1, 3 and 17
taken_alone : (r : Register) (v : Withdrawal) (who y : ℕ) → takes r v (revoke who y) ≡ true
    → (withdrawn r (revoke who y)).outcome ≡ cond (any (λ c. eqb c.grantor who) (chain_from (standing r) y)) (Ok tt) (Err NoGrantor)
taken_alone r v who y e =
    let first = and_left (took r (withdraw v)) _ e in
    let rest = and_right (took r (withdraw v)) ((world_in r).known who && any (names v) (chain_from (standing r) y)) e in
    let h = took_sound r v first in
    told_by r who y
    ∙ rw (
      h,
      and_left ((world_in r).known who) (any (names v) (chain_from (standing r) y)) rest,
      named_stands (names v) r h y (and_right ((world_in r).known who) (any (names v) (chain_from (standing r) y)) rest),
    )

not_both : (a : Bool) → a && not a ≡ false
not_both true = refl
not_both false = refl

either_told : (granting : Bool) → AcceptedOrBarred (cond granting (Ok tt) (Err NoGrantor))
either_told true = inl refl
either_told false = inr refl

pub withdraw_lost : (r : Register) (v w : Withdrawal) → takes r v w ≡ true → AcceptedOrBarred (withdrawn r w).outcome
withdraw_lost r v (revoke who y) e = rw (taken_alone r v who y e) (either_told (any (λ c. eqb c.grantor who) (chain_from (standing r) y)))
withdraw_lost r v (clear_resource who o) e = absurd (false≢true (and_right (took r (withdraw v)) false e))
withdraw_lost r v (clear_expired who moment) e = absurd (false≢true (and_right (took r (withdraw v)) false e))

pub withdraw_told : (r : Register) (v w : Withdrawal)
    → turns_absent (withdrawn r w).outcome (withdrawn (withdrawn r v).register w).outcome ≡ takes r v w
withdraw_told r v w = ap (turns_absent (withdrawn r w).outcome) (second_told r v w) ∙ cases (takes r v w)
    (λ e. rw e (ap not (⊎_elim (ap is_absent) (ap is_absent) (withdraw_lost r v w e))))
    (λ e. rw e (not_both (is_absent (withdrawn r w).outcome)))
