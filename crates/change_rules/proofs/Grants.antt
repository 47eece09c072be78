-- Laws: One grant: when it is accepted, test by test, and the register that it hands back, its claims and that it is sound. Assumes nothing.
use Rattle.std.specs.Prelude.{◌≡◌, refl, Bool, true, false, not, ◌&&◌, ◌||◌, cond, List, [], ◌∷◌, ◌++◌, ℕ, ◌+◌, ◌≤◌, ◌<◌, eqb, leb, ltb, length, take, set}
use Rattle.std.proofs.Common.{ap, sym, ◌∙◌, add-one, arith, ltb-true, ltb-false, take_all, take-suc-set}
use Rattle.std.proofs.Math.Bool.{and-false, and-true, and_assoc}
use Rattle.std.proofs.lemmas.List.{reverse-append}
use Rattle.std.proofs.Math.Seq.{set_out}
use Rattle.lists.specs.Tests.{cases}
use Rattle.lists.specs.Lists.{every, ands}
use Rattle.lists.specs.Each.{ands_out}
use Rattle.rights.specs.Rights.{delegating, has_right, has_rights, bars_machine}
use Rattle.register.specs.Limits.{claim_limit, moment_end}
use Rattle.register.specs.Register.{claims_of, Shaped}
use Rattle.register.specs.Chain.{above, circling, latest}
use Rattle.register.specs.declared.Claim.{Claim}
use Rattle.register.specs.declared.Register.{Register}
use Rattle.soundness_rules.specs.Sound.{sound, claim_fits, names_stand, root_kept, machine_may, drawn_from, fewer_left, over_chain, drawn, fresh, acceptable, stored, sound_claims}
use Rattle.soundness_rules.proofs.Laws.{acceptable_out, acceptable_in}
use Rattle.soundness_rules.proofs.Registers.{sound_out, sound_in}
use Rattle.soundness_rules.proofs.Places.{sound_claims_in}
use Rattle.soundness_rules.proofs.Alike.{acceptable_stored}
use Rattle.refusals.specs.Refusals.{Test, outcome_of, is_accepted}
use Rattle.change_rules.specs.Changes.{world_in, standing, source_live, parent_tests, world_tests, grant_tests, appended, granted}

-- a call is accepted where it passes every test
pub every_passed : (tests : List Test) → is_accepted (outcome_of tests) ≡ every (λ t. t.passed) tests
unfolding outcome_of
every_passed [] = refl
every_passed (t ∷ tests) = cases t.passed (λ e. rw e (every_passed tests)) (λ e. rw e)

-- tests 7 and 8 are (c)
machine_tests : (machine ownerless bars rest : Bool)
    → not (machine && ownerless) && (not (machine && bars) && rest) ≡ (not machine || (not ownerless && not bars)) && rest
machine_tests false ownerless bars rest = refl
machine_tests true true bars rest = refl
machine_tests true false bars rest = refl

-- test 11 set apart from 10 and 12 to 16
set_apart : (held on_same live delegates contains weighs hops uncircled : Bool)
    → (held && on_same) && (live && (delegates && (contains && (weighs && (hops && (uncircled && true))))))
    ≡ ((held && (on_same && (delegates && (contains && (weighs && true))))) && (hops && (uncircled && true))) && live
set_apart false on_same live delegates contains weighs hops uncircled = refl
set_apart true false live delegates contains weighs hops uncircled = refl
set_apart true true false delegates contains weighs hops uncircled =
    sym (and-false ((delegates && (contains && (weighs && true))) && (hops && (uncircled && true))))
set_apart true true true delegates contains weighs hops uncircled = go delegates contains weighs hops uncircled
  where
    go : (delegates contains weighs hops uncircled : Bool) → delegates && (contains && (weighs && (hops && (uncircled && true))))
        ≡ ((delegates && (contains && (weighs && true))) && (hops && (uncircled && true))) && true
    go false contains weighs hops uncircled = refl
    go true false weighs hops uncircled = refl
    go true true false hops uncircled = refl
    go true true true false uncircled = refl
    go true true true true uncircled = sym (and-true (uncircled && true))

parent_tests_over : (version moment : ℕ) (H : List Claim) (c : Claim)
    → every (λ t. t.passed) (parent_tests version moment H c) ≡ over_chain version H c && source_live moment H
unfolding parent_tests over_chain drawn_from
parent_tests_over version moment [] c = refl
parent_tests_over version moment (p ∷ higher) c =
    set_apart (eqb p.holder c.grantor) (eqb p.resource c.resource) (source_live moment (p ∷ higher)) (has_right p.rights delegating)
    (has_rights p.rights c.rights) (leb c.weight p.weight) (fewer_left version p higher c)
    (not (circling (λ d. d.grantor) (λ d. d.holder) (p ∷ higher) c.holder))

-- what tests 1 to 16 of a grant ask; whether a source lives is not looked into
abbrev pub grant_asks : Register → Claim → ℕ → List Bool
grant_asks r c moment =
    sound r
    ∷ claim_fits r.version c
    ∷ ltb moment moment_end
    ∷ names_stand (world_in r) c
    ∷ fresh (standing r) c
    ∷ ltb r.claims.count claim_limit
    ∷ root_kept (world_in r) c
    ∷ machine_may (world_in r) c
    ∷ drawn r.version (standing r) c
    ∷ (eqb c.parent 0 || source_live moment (above (standing r) c))
    ∷ []

-- tests 9 to 16 ask nothing of a root
root_tests : (root : Bool) (tests : List Test) (over live : Bool) → every (λ t. t.passed) tests ≡ over && live
    → every (λ t. t.passed) (cond root [] tests) ≡ (root || over) && ((root || live) && true)
root_tests true tests over live e = refl
root_tests false tests over live e = e ∙ ap (λ b. over && b) (sym (and-true live))

-- the tests one by one
one_by_one : (judged fits timely stands free room kept owned unbarred machine drawn-and-live : Bool) → owned && (unbarred && drawn-and-live) ≡ machine && drawn-and-live
    → judged && ((fits && timely) && (stands && (free && (room && (kept && (owned && (unbarred && drawn-and-live)))))))
    ≡ judged && (fits && (timely && (stands && (free && (room && (kept && (machine && drawn-and-live)))))))
one_by_one judged fits timely stands free room kept owned unbarred machine rest e =
    rw (e, and_assoc fits timely (stands && (free && (room && (kept && (machine && rest))))))

pub grant_accepted : (r : Register) (c : Claim) (moment : ℕ) → is_accepted (granted r c moment).outcome ≡ ands (grant_asks r c moment)
unfolding granted grant_tests world_tests drawn machine_may
grant_accepted r c moment =
    let rest = root_tests (eqb c.parent 0) (parent_tests r.version moment (above (standing r) c) c) (over_chain r.version (above (standing r) c) c)
    (source_live moment (above (standing r) c)) (parent_tests_over r.version moment (above (standing r) c) c) in
    let drawn_live : Bool = (eqb c.parent 0 || over_chain r.version (above (standing r) c) c) && ((eqb c.parent 0 || source_live moment (above (standing r) c)) && true) in
    every_passed (grant_tests r c moment)
    ∙ ap (λ b. sound r && ((claim_fits r.version c && ltb moment moment_end) && (names_stand (world_in r) c && (fresh (standing r) c && (ltb r.claims.count claim_limit
    && (root_kept (world_in r) c && (not ((world_in r).machine c.grantor && (world_in r).ownerless c.grantor)
    && (not ((world_in r).machine c.grantor && bars_machine c.rights) && b)))))))) rest
    ∙ one_by_one (sound r) (claim_fits r.version c) (ltb moment moment_end) (names_stand (world_in r) c) (fresh (standing r) c) (ltb r.claims.count claim_limit)
    (root_kept (world_in r) c) (not ((world_in r).machine c.grantor && (world_in r).ownerless c.grantor))
    (not ((world_in r).machine c.grantor && bars_machine c.rights)) (machine_may (world_in r) c) drawn_live
    (machine_tests ((world_in r).machine c.grantor) ((world_in r).ownerless c.grantor) (bars_machine c.rights) drawn_live)

-- what an accepted grant tells, and what has it accepted
pub record GrantPassed (r : Register) (c : Claim) (moment : ℕ) : Type 0 where
  pub judged : sound r ≡ true
  pub timely : ltb moment moment_end ≡ true
  pub room : ltb r.claims.count claim_limit ≡ true
  pub fitting : acceptable (world_in r) (standing r) c ≡ true
  pub lives : eqb c.parent 0 || source_live moment (above (standing r) c) ≡ true

pub grant_out : (r : Register) (c : Claim) (moment : ℕ) → is_accepted (granted r c moment).outcome ≡ true → GrantPassed r c moment
grant_out r c moment h =
    let told = ands_out (grant_asks r c moment) (sym (grant_accepted r c moment) ∙ h) in
    record {
      judged = told.0;
      timely = told.1.1.0;
      room = told.1.1.1.1.1.0;
      fitting = acceptable_in (world_in r) (standing r) c record {
        by_itself = record { fits = told.1.0; stands = told.1.1.1.0; kept = told.1.1.1.1.1.1.0; granted = told.1.1.1.1.1.1.1.0 };
        over_earlier = record { apart = told.1.1.1.1.0; chained = told.1.1.1.1.1.1.1.1.0 };
      };
      lives = told.1.1.1.1.1.1.1.1.1.0;
    }

ten_hold : (a b c d e f g h i j : Bool) → a ≡ true → b ≡ true → c ≡ true → d ≡ true → e ≡ true → f ≡ true → g ≡ true → h ≡ true → i ≡ true → j ≡ true
    → ands (a ∷ b ∷ c ∷ d ∷ e ∷ f ∷ g ∷ h ∷ i ∷ j ∷ []) ≡ true
ten_hold a b c d e f g h i j p q r s t u v w x y = rw (p, q, r, s, t, u, v, w, x, y)

pub grant_in : (r : Register) (c : Claim) (moment : ℕ) → GrantPassed r c moment → is_accepted (granted r c moment).outcome ≡ true
grant_in r c moment h =
    let told = acceptable_out (world_in r) (standing r) c h.fitting in
    grant_accepted r c moment
    ∙ ten_hold _ _ _ _ _ _ _ _ _ _ h.judged told.by_itself.fits h.timely told.by_itself.stands told.over_earlier.apart h.room
    told.by_itself.kept told.by_itself.granted told.over_earlier.chained h.lives

-- the register that an accepted grant hands back
pub granted_register : (r : Register) (c : Claim) (moment : ℕ) → is_accepted (granted r c moment).outcome ≡ true
    → (granted r c moment).register ≡ appended r (stored r.version (standing r) c)
unfolding granted
granted_register r c moment e = ap (λ b. cond b (appended r (stored r.version (standing r) c)) r) e

-- a list with an element put behind its first n, latest first
pub take_appended : (l : List Claim) (n : ℕ) (c : Claim) → n < length l → latest (take (n + 1) (set l n c)) ≡ c ∷ latest (take n l)
take_appended l n c h = rw (add-one, take-suc-set l n c h) (reverse-append (take n l) (c ∷ []))

take_short : (l : List Claim) (n : ℕ) (c : Claim) → length l ≤ n → latest (take (n + 1) (set l n c)) ≡ latest (take n l)
take_short l n c h = rw (set_out l n c h, take_all (n + 1) l (omega (arith, h)), take_all n l h)

-- an acceptable claim stands behind the others with them sound
pub appended_fitting : (r : Register) (c : Claim) (moment : ℕ) → GrantPassed r c moment → sound_claims (world_in r) (c ∷ standing r) ≡ true
appended_fitting r c moment h = sound_claims_in (world_in r) c (standing r) h.fitting (sound_out r h.judged).claims

-- the register with it is sound; in an array too short for it, it does not stand at all
pub appended_sound : (r : Register) (c : Claim) (moment : ℕ) → GrantPassed r c moment → sound (appended r c) ≡ true
appended_sound r c moment h =
    let before = sound_out r h.judged in
    let below : r.claims.count + 1 ≤ claim_limit = omega (arith, ltb-true r.claims.count claim_limit h.room) in
    sound_in (appended r c) record {
      version = before.version;
      limits = record { actor_count = before.limits.actor_count; resource_count = before.limits.resource_count; claim_count = below };
      actors = before.actors;
      resources = before.resources;
      claims = cases (ltb r.claims.count (length r.claims.list))
          (λ e. rw (take_appended r.claims.list r.claims.count c (ltb-true r.claims.count (length r.claims.list) e))
          (appended_fitting r c moment h))
          (λ e. let short : length r.claims.list ≤ r.claims.count = ltb-false r.claims.count (length r.claims.list) e in
          rw (take_short r.claims.list r.claims.count c short) before.claims);
    }

-- its claims
pub appended_claims : (r : Register) (c : Claim) (moment : ℕ) → Shaped r → GrantPassed r c moment
    → claims_of (appended r c).claims ≡ claims_of r.claims ++ (c ∷ [])
appended_claims r c moment shaped h =
    let below : r.claims.count < length r.claims.list = omega (arith, shaped.claims, ltb-true r.claims.count claim_limit h.room) in
    rw (add-one, take-suc-set r.claims.list r.claims.count c below)

pub appended_standing : (r : Register) (c : Claim) (moment : ℕ) → Shaped r → GrantPassed r c moment → standing (appended r c) ≡ c ∷ standing r
appended_standing r c moment shaped h = ap latest (appended_claims r c moment shaped h) ∙ reverse-append (claims_of r.claims) (c ∷ [])

-- what is stored of an accepted claim would be accepted too
pub stored_passed : (r : Register) (c : Claim) (moment : ℕ) → GrantPassed r c moment → GrantPassed r (stored r.version (standing r) c) moment
stored_passed r c moment h = record {
  judged = h.judged;
  timely = h.timely;
  room = h.room;
  fitting = acceptable_stored (world_in r) (standing r) c ∙ h.fitting;
  lives = h.lives;
}
