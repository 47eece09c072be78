-- What is accepted, what a grant looks at, and what a withdrawal removes. Assumes nothing.
use Rattle.std.proofs.Common.{◌≡◌, ap, ◌∙◌, refl, sym, Bool, true, ◌&&◌, ◌||◌, not, false, List, [], ◌∷◌, ◌++◌, ℕ, ◌+◌, ◌-◌, ◌≤◌, ◌<◌, arith, lt-ltb, eqb-true, eqb, ltb, length}
use mathlib.Core.List.{reverse-reverse}
use borrow.Author.Tests.{eqb-false}
use lib.ListN.{length-reverse}
use Rattle.lists.specs.Tests.{iff_same, and_left, and_right, and_both, cases}
use Rattle.lists.specs.Lists.{any, Each, All, filter}
use Rattle.lists.specs.Each.{all_imp, all_none}
use Rattle.lists.specs.Filters.{dropping_same, filter_not, filter_reverse}
use Rattle.register.specs.Limits.{claim_limit, moment_end}
use Rattle.register.specs.Register.{claims_of, Shaped}
use Rattle.register.specs.Chain.{chain, above, latest}
use Rattle.register.specs.Laws.{chain_zero, chain_ind}
use Rattle.register.specs.declared.Claim.{Claim}
use Rattle.register.specs.declared.Register.{Register}
use Rattle.soundness_rules.specs.Sound.{World, sound_claims, sound, fresh, drawn, stored}
use Rattle.soundness_rules.proofs.Laws.{acceptable_out, drawn_out}
use Rattle.soundness_rules.proofs.Registers.{sound_out}
use Rattle.soundness_rules.proofs.Places.{latest_acceptable, earlier_sound}
use Rattle.soundness_rules.proofs.Striking.{strike_latest, strike_length, sound_distinct}
use Rattle.refusals.specs.Refusals.{is_accepted}
use Rattle.soundness_rules.specs.Struck.{strike, struck}
use Rattle.change_rules.specs.Changes.{world_in, standing, source_live, world_tests, grant_tests, appended, granted, unstruck, Withdrawal, clear_resource, names, withdrawn}
use Rattle.history.specs.History.{grant, changed, took, withdraw}
use Rattle.change_rules.proofs.Grants.{GrantPassed, grant_out, grant_in, granted_register, take_appended, appended_sound, appended_claims, stored_passed}
use Rattle.history.proofs.Changing.{withdrawn_register, withdrawn_removed}
use Rattle.history.proofs.Holds.{claims_holding}

abbrev pub grant_fits : Register → Claim → ℕ → Bool
grant_fits r c moment = sound r && (ltb moment moment_end && (sound (appended r c) && (eqb c.parent 0 || source_live moment (above (standing r) c))))

fits_in : (r : Register) (c : Claim) (moment : ℕ) → GrantPassed r c moment → grant_fits r c moment ≡ true
fits_in r c moment h =
    and_both (sound r) _ h.judged (and_both (ltb moment moment_end) _ h.timely
    (and_both (sound (appended r c)) _ (appended_sound r c moment h) h.lives))

-- where a register is sound with a claim, its claims are, with that one the latest
latest_fitting : (r : Register) (c : Claim) → Shaped r → r.claims.count < claim_limit → sound (appended r c) ≡ true
    → sound_claims (world_in r) (c ∷ standing r) ≡ true
latest_fitting r c shaped below k =
    let within : r.claims.count < length r.claims.list = omega (arith, shaped.claims, below) in
    rw (← take_appended r.claims.list r.claims.count c within) (sound_out (appended r c) k).claims

fits_out : (r : Register) (c : Claim) (moment : ℕ) → Shaped r → grant_fits r c moment ≡ true → GrantPassed r c moment
fits_out r c moment shaped h =
    let judged = and_left (sound r) _ h in
    let rest = and_right (sound r) (ltb moment moment_end && (sound (appended r c) && (eqb c.parent 0 || source_live moment (above (standing r) c)))) h in
    let last = and_right (ltb moment moment_end) (sound (appended r c) && (eqb c.parent 0 || source_live moment (above (standing r) c))) rest in
    let after = and_left (sound (appended r c)) (eqb c.parent 0 || source_live moment (above (standing r) c)) last in
    let most : r.claims.count + 1 ≤ claim_limit = (sound_out (appended r c) after).limits.claim_count in
    let below : r.claims.count < claim_limit = omega (arith, most) in
    record {
      judged = judged;
      timely = and_left (ltb moment moment_end) (sound (appended r c) && (eqb c.parent 0 || source_live moment (above (standing r) c))) rest;
      room = lt-ltb r.claims.count claim_limit below;
      fitting = latest_acceptable (world_in r) c (standing r) (latest_fitting r c shaped below after);
      lives = and_right (sound (appended r c)) (eqb c.parent 0 || source_live moment (above (standing r) c)) last;
    }

-- a grant is accepted exactly where the register is sound before and with it, the moment is in range and the source lives
pub grant_exact : (r : Register) (c : Claim) (moment : ℕ) → Shaped r → is_accepted (granted r c moment).outcome ≡ grant_fits r c moment
grant_exact r c moment shaped = iff_same (is_accepted (granted r c moment).outcome) (grant_fits r c moment)
    (λ h. fits_in r c moment (grant_out r c moment h)) (λ h. grant_in r c moment (fits_out r c moment shaped h))

-- an accepted grant puts the claim, as it is stored, behind the others
pub granted_claims : (r : Register) (c : Claim) (moment : ℕ) → Shaped r → took r (grant c moment) ≡ true
    → claims_of (changed r (grant c moment)).claims ≡ claims_of r.claims ++ (stored r.version (standing r) c ∷ [])
granted_claims r c moment shaped e =
    ap (λ s. claims_of s.claims) (granted_register r c moment e)
    ∙ appended_claims r (stored r.version (standing r) c) moment shaped (stored_passed r c moment (grant_out r c moment e))

world_tests_same : (w v : World) (L K : List Claim) (n m : ℕ) (c : Claim) → w ≡ v → fresh L c ≡ fresh K c → ltb n claim_limit ≡ ltb m claim_limit
    → world_tests w L n c ≡ world_tests v K m c
unfolding world_tests
world_tests_same w v L K n m c world free room = rw (world, free, room)

-- a grant looks at the other claims through the chain above it, its id among theirs and their number alone
pub grant_looks : (r s : Register) (c : Claim) (moment : ℕ) → sound r ≡ sound s → world_in r ≡ world_in s → above (standing r) c ≡ above (standing s) c
    → fresh (standing r) c ≡ fresh (standing s) c → ltb r.claims.count claim_limit ≡ ltb s.claims.count claim_limit
    → (granted r c moment).outcome ≡ (granted s c moment).outcome
unfolding granted grant_tests
grant_looks r s c moment judged world chained free room = rw (
  judged,
  chained,
  world_tests_same (world_in r) (world_in s) (standing r) (standing s) r.claims.count s.claims.count c world free room,
  ap (λ w. w.version) world,
)

-- on a chain of sound claims all are on the resource of the first
abbrev OnOne : List Claim → Type 0
OnOne [] = Unit {0}
OnOne (d ∷ H) = All (λ c. c.resource ≡ d.resource) H

-- what is drawn is on the resource of all that is above it
drawn_on_one : (version : ℕ) (L : List Claim) (c : Claim) → drawn version L c ≡ true → OnOne (above L c) → All (λ d. d.resource ≡ c.resource) (above L c)
drawn_on_one version L c h one =
    cases (eqb c.parent 0)
    (λ e. rw (eqb-true c.parent 0 e, chain_zero (λ d. d.id) (λ d. d.parent) L) tt)
    (λ e. let d = drawn_out version L c h (eqb-false c.parent 0 e) in
    let same = d.over_it.drawn_from_parent.on_same in
    let higher : All (λ a. a.resource ≡ d.parent.resource) d.higher = rw d.chained at one in
    rw d.chained (same, all_imp _ (λ a. a.resource ≡ c.resource) (λ a q. q ∙ same) d.higher higher))

chain_on_one : (w : World) (L : List Claim) (p : ℕ) → sound_claims w L ≡ true → OnOne (chain (λ d. d.id) (λ d. d.parent) L p)
chain_on_one w = chain_ind (λ d. d.id) (λ d. d.parent) (λ L p H. sound_claims w L ≡ true → OnOne H)
    (λ p h. tt)
    (λ c L p e ih h. drawn_on_one w.version L c (acceptable_out w L c (latest_acceptable w c L h)).over_earlier.chained (ih (earlier_sound w c L h)))
    (λ c L p e ih h. ih (earlier_sound w c L h))

-- so what is struck with a resource is what is on it
struck_resource : (w : World) (o : ℕ) (L : List Claim) → sound_claims w L ≡ true
    → Each (λ M c. struck (λ d. d.id) (λ d. d.parent) (λ d. eqb d.resource o) M c ≡ eqb c.resource o) L
struck_resource w o [] h = tt
struck_resource w o (c ∷ L) h =
    let sound_earlier = earlier_sound w c L h in
    let same = drawn_on_one w.version L c (acceptable_out w L c (latest_acceptable w c L h)).over_earlier.chained (chain_on_one w L c.parent sound_earlier) in (
      any_alike (eqb c.resource o) (λ d. eqb d.resource o) (above L c)
          (all_imp (λ d. d.resource ≡ c.resource) (λ d. eqb d.resource o ≡ eqb c.resource o) (λ d q. ap (λ n. eqb n o) q) (above L c) same),
      struck_resource w o L sound_earlier,
    )
  where
    any_alike : (b : Bool) (P : Claim → Bool) (H : List Claim) → All (λ d. P d ≡ b) H → b || any P H ≡ b
    any_alike true P H k = refl
    any_alike false P H k = all_none P H k

strike_resource : (w : World) (o : ℕ) (L : List Claim) → sound_claims w L ≡ true
    → strike (λ d. d.id) (λ d. d.parent) (λ d. eqb d.resource o) L ≡ filter (λ c. not (eqb c.resource o)) L
strike_resource w o L h =
    dropping_same (struck (λ d. d.id) (λ d. d.parent) (λ d. eqb d.resource o)) (λ M c. eqb c.resource o) L (struck_resource w o L h)
    ∙ sym (filter_not (λ c. eqb c.resource o) L)

-- an accepted withdrawal removes exactly what has something that it names on its chain, itself included, and the rest keep their order
pub withdraw_removes : (r : Register) (w : Withdrawal) → sound r ≡ true → took r (withdraw w) ≡ true
    → claims_of (changed r (withdraw w)).claims ≡ filter (λ c. not (any (names w) (chain (λ d. d.id) (λ d. d.parent) (standing r) c.id))) (claims_of r.claims)
withdraw_removes r w h e =
    ap (λ s. claims_of s.claims) (withdrawn_register r w e) ∙ claims_holding r (unstruck (names w) r)
    ∙ strike_latest (λ c. c.id) (λ c. c.parent) (names w) (claims_of r.claims) (sound_distinct (world_in r) (standing r) (sound_out r h).claims)

-- a clearing of a resource removes just the claims on it: a chain is on one resource
pub clear_resource_removes : (r : Register) (who o : ℕ) → sound r ≡ true → took r (withdraw (clear_resource who o)) ≡ true
    → claims_of (changed r (withdraw (clear_resource who o))).claims ≡ filter (λ c. not (eqb c.resource o)) (claims_of r.claims)
clear_resource_removes r who o h e =
    ap (λ s. claims_of s.claims) (withdrawn_register r (clear_resource who o) e) ∙ claims_holding r (unstruck (λ c. eqb c.resource o) r)
    ∙ ap latest (strike_resource (world_in r) o (standing r) (sound_out r h).claims ∙ filter_reverse (λ c. not (eqb c.resource o)) (claims_of r.claims))
    ∙ reverse-reverse (filter (λ c. not (eqb c.resource o)) (claims_of r.claims))

-- what a striking takes and what it leaves come to what stood
pub left_counts : (P : Claim → Bool) (r : Register) → (length (standing r) - length (unstruck P r)) + length (unstruck P r) ≡ length (standing r)
left_counts P r =
    let K : List Claim = strike (λ c. c.id) (λ c. c.parent) P (standing r) in
    let fewer : length K ≤ length (standing r) = strike_length (λ c. c.id) (λ c. c.parent) P (standing r) in
    omega (arith, fewer, length-reverse K)

-- an accepted withdrawal says how many went
pub withdraw_counts : (r : Register) (w : Withdrawal) → took r (withdraw w) ≡ true
    → (withdrawn r w).removed + length (claims_of (changed r (withdraw w)).claims) ≡ length (claims_of r.claims)
withdraw_counts r w e =
    let survivors : length (claims_of (changed r (withdraw w)).claims) ≡ length (unstruck (names w) r) =
    ap (λ s. length (claims_of s.claims)) (withdrawn_register r w e) ∙ ap length (claims_holding r (unstruck (names w) r)) in
    omega (arith, survivors, withdrawn_removed r w e, left_counts (names w) r, length-reverse (claims_of r.claims))
