-- Registers that are the same pass the same tests of a grant and of a withdrawal, and what either hands back is the same. Outside version 2
-- their claims may hold other numbers as left: no test asks for them. Assumes nothing.
use Rattle.std.proofs.Common.{◌≡◌, refl, ap, sym, ◌∙◌, Bool, true, false, not, ◌&&◌, ◌||◌, cond, List, [], ◌∷◌, ◌++◌, map, ℕ, ◌+◌, ◌-◌, ◌≤◌, ◌<◌, add-one, arith, ltb-true, ltb-false, eqb, leb, ltb, length, take, set, replicate, take-suc-set, take_all}
use mathlib.Core.Path.{fun_ext}
use mathlib.Core.List.{map-append}
use lib.ListN.{length-map}
use lib.Seq.{take-append_seam, set_out}
use Rattle.lists.specs.Tests.{cases}
use Rattle.lists.specs.Lists.{any}
use Rattle.lists.specs.Each.{any_map, every_map, reverse_map}
use Rattle.lists.specs.Filters.{dropping_map}
use Rattle.rights.specs.Rights.{delegating, has_right, has_rights}
use Rattle.register.specs.Limits.{claim_limit, left_limit, tells_left}
use Rattle.register.specs.Register.{claims_of, with_left, claim_as, no_claim, Same}
use Rattle.register.specs.Chain.{latest, chain, above, circling, current}
use Rattle.register.specs.Laws.{bare, claims_told, same_bare, chain_map}
use Rattle.register.specs.declared.Claim.{Claim}
use Rattle.register.specs.declared.Register.{Register}
use Rattle.soundness_rules.specs.Sound.{fewer_left, stored}
use Rattle.soundness_rules.specs.Struck.{struck, strike}
use Rattle.soundness_rules.proofs.Alike.{chain_bare, circling_bare, fresh_bare}
use Rattle.soundness_rules.proofs.Sameness.{world_of_same, sound_same}
use Rattle.refusals.specs.Refusals.{Test, outcome_of, is_accepted}
use Rattle.refusals.specs.declared.Refusal.TheVariants.{NotHeld, NotLive, NoDelegate, RightLacking, WeightAbove, TooManyHops, Circle}
use Rattle.change_rules.specs.Changes.{world_in, standing, source_live, parent_tests, world_tests, grant_tests, appended, granted, revoke_tests, clear_resource_tests, clear_expired_tests, unstruck, holding, Withdrawal, revoke, clear_resource, clear_expired, names, withdraw_tests, withdrawn}

-- one more behind the first n of two lists that agree so far, read through f, and are as long as each other
take_set_same : (f : Claim → Claim) (l k : List Claim) (n : ℕ) (c : Claim) → length l ≡ length k → map f (take n l) ≡ map f (take n k)
    → map f (take (n + 1) (set l n c)) ≡ map f (take (n + 1) (set k n c))
take_set_same f l k n c long e =
    cases (ltb n (length l))
    (λ t. let inside : n < length l = ltb-true n (length l) t in
    rw (add-one, take-suc-set l n c inside, take-suc-set k n c (omega arith))
    (map-append f (take n l) (c ∷ []) ∙ ap (λ m. m ++ (f c ∷ [])) e ∙ sym (map-append f (take n k) (c ∷ []))))
    (λ t. let past : length l ≤ n = ltb-false n (length l) t in
    let beyond : length k ≤ n = omega arith in
    rw (set_out l n c past, set_out k n c beyond, take_all (n + 1) l (omega arith), take_all (n + 1) k (omega arith))
    (ap (map f) (sym (take_all n l past)) ∙ e ∙ ap (map f) (take_all n k beyond)))

-- what is chosen by the same test is the same
chosen_same : (b d : Bool) (after before later earlier : Register) → b ≡ d → Same after later → Same before earlier
    → Same (cond b after before) (cond d later earlier)
chosen_same true d after before later earlier e there here = rw (← e) there
chosen_same false d after before later earlier e there here = rw (← e) here

-- what a test of a grant with a parent asks of the chain: that the source is live, that there are fewer hands left, that there is no circle
abbrev chain_tests : Bool → Bool → Bool → Claim → Claim → List Test
chain_tests lives fewer uncircled p c =
    record { passed = eqb p.holder c.grantor && eqb p.resource c.resource; refusal = NotHeld }
    ∷ record { passed = lives; refusal = NotLive }
    ∷ record { passed = has_right p.rights delegating; refusal = NoDelegate }
    ∷ record { passed = has_rights p.rights c.rights; refusal = RightLacking }
    ∷ record { passed = leb c.weight p.weight; refusal = WeightAbove }
    ∷ record { passed = fewer; refusal = TooManyHops }
    ∷ record { passed = uncircled; refusal = Circle }
    ∷ []

-- outside version 2 what the claims of the chain hold as left is not asked
module _ (version : ℕ) (untold : tells_left version ≡ false) where
  fewer_bare : (p : Claim) (higher : List Claim) (c : Claim) → fewer_left version (bare p) (map bare higher) c ≡ fewer_left version p higher c
  fewer_bare p higher c = rw (untold, length-map higher bare)

  parent_tests_bare : (moment : ℕ) (H : List Claim) (c : Claim) → parent_tests version moment (map bare H) c ≡ parent_tests version moment H c
  unfolding parent_tests source_live
  parent_tests_bare moment [] c = refl
  parent_tests_bare moment (p ∷ higher) c =
      ap (λ b. chain_tests b (fewer_left version (bare p) (map bare higher) c)
      (not (circling (λ d. d.grantor) (λ d. d.holder) (map bare (p ∷ higher)) c.holder)) p c) (every_map bare (current moment) (p ∷ higher))
      ∙ ap (λ b. chain_tests (source_live moment (p ∷ higher)) b
      (not (circling (λ d. d.grantor) (λ d. d.holder) (map bare (p ∷ higher)) c.holder)) p c) (fewer_bare p higher c)
      ∙ ap (λ b. chain_tests (source_live moment (p ∷ higher)) (fewer_left version p higher c) (not b) p c) (circling_bare (p ∷ higher) c.holder)

-- no withdrawal names claims by what they hold as left
names_as : (version : ℕ) (w : Withdrawal) (c : Claim) → names w (claim_as version c) ≡ names w c
names_as version (revoke who x) c = refl
names_as version (clear_resource who o) c = refl
names_as version (clear_expired who moment) c = refl

struck_as : (version : ℕ) (P : Claim → Bool) → ((c : Claim) → P (claim_as version c) ≡ P c) → (M : List Claim) (c : Claim)
    → struck (λ c. c.id) (λ c. c.parent) P (map (claim_as version) M) (claim_as version c) ≡ struck (λ c. c.id) (λ c. c.parent) P M c
struck_as version P blind M c =
    let H : List Claim = chain (λ d. d.id) (λ d. d.parent) M c.parent in
    ap (λ b. b || any P (chain (λ d. d.id) (λ d. d.parent) (map (claim_as version) M) c.parent)) (blind c)
    ∙ ap (λ K. P c || any P K) (chain_map (claim_as version) (λ d. d.id) (λ d. d.parent) M c.parent)
    ∙ ap (λ b. P c || b) (any_map (claim_as version) P H)
    ∙ ap (λ (Q : Claim → Bool). P c || any Q H) (fun_ext blind)

strike_as : (version : ℕ) (w : Withdrawal) (L : List Claim)
    → strike (λ c. c.id) (λ c. c.parent) (names w) (map (claim_as version) L) ≡ map (claim_as version) (strike (λ c. c.id) (λ c. c.parent) (names w) L)
strike_as version w = dropping_map (claim_as version) (struck (λ c. c.id) (λ c. c.parent) (names w)) (struck (λ c. c.id) (λ c. c.parent) (names w))
    (struck_as version (names w) (names_as version w))

-- the claims that a withdrawal leaves, as they count
unstruck_as : (version : ℕ) (w : Withdrawal) (r : Register)
    → map (claim_as version) (unstruck (names w) r) ≡ latest (strike (λ c. c.id) (λ c. c.parent) (names w) (latest (map (claim_as version) (claims_of r.claims))))
unstruck_as version w r =
    sym (reverse_map (claim_as version) (strike (λ c. c.id) (λ c. c.parent) (names w) (standing r)))
    ∙ ap latest (sym (strike_as version w (standing r)))
    ∙ ap (λ L. latest (strike (λ c. c.id) (λ c. c.parent) (names w) L)) (sym (reverse_map (claim_as version) (claims_of r.claims)))

module _ (r s : Register) (same : Same r s) where
  -- what is read off the claims without what they hold as left is the same
  standing_bare : map bare (standing r) ≡ map bare (standing s)
  standing_bare = sym (reverse_map bare (claims_of r.claims)) ∙ ap latest (same_bare r s same) ∙ reverse_map bare (claims_of s.claims)

  standing_read : {A : Type 0} (f : List Claim → A) → ((L : List Claim) → f (map bare L) ≡ f L) → f (standing r) ≡ f (standing s)
  standing_read f blind = sym (blind (standing r)) ∙ ap f standing_bare ∙ blind (standing s)

  -- as they count in the version
  claims_as : map (claim_as s.version) (claims_of r.claims) ≡ map (claim_as s.version) (claims_of s.claims)
  claims_as = ap (λ v. map (claim_as v) (claims_of r.claims)) (sym same.version) ∙ same.claims

  standing_told : tells_left s.version ≡ true → standing r ≡ standing s
  standing_told told = ap latest (sym (claims_told s.version told (claims_of r.claims)) ∙ claims_as ∙ claims_told s.version told (claims_of s.claims))

  above_length : (c : Claim) → length (above (standing r) c) ≡ length (above (standing s) c)
  above_length c = standing_read (λ L. length (above L c)) (λ L. ap length (chain_bare L c.parent) ∙ length-map (above L c) bare)

  stored_same : (c : Claim) → stored r.version (standing r) c ≡ stored s.version (standing s) c
  stored_same c =
      ap (λ v. stored v (standing r) c) same.version
      ∙ ap (λ n. with_left (cond (tells_left s.version) c.left (left_limit - n)) c) (above_length c)

  world_tests_same : (c : Claim) → world_tests (world_in r) (standing r) r.claims.count c ≡ world_tests (world_in s) (standing s) s.claims.count c
  unfolding world_tests
  world_tests_same c =
      ap (λ w. world_tests w (standing r) r.claims.count c) (world_of_same r s same)
      ∙ standing_read (λ L. world_tests (world_in s) L r.claims.count c) (λ L. rw (fresh_bare L c))
      ∙ ap (λ n. world_tests (world_in s) (standing s) n c) same.claim_count

  parent_tests_same : (moment : ℕ) (c : Claim) → parent_tests r.version moment (above (standing r) c) c ≡ parent_tests s.version moment (above (standing s) c) c
  parent_tests_same moment c =
      ap (λ v. parent_tests v moment (above (standing r) c) c) same.version
      ∙ cases (tells_left s.version) (λ told. ap (λ L. parent_tests s.version moment (above L c) c) (standing_told told))
      (λ untold. standing_read (λ L. parent_tests s.version moment (above L c) c)
      (λ L. ap (λ H. parent_tests s.version moment H c) (chain_bare L c.parent) ∙ parent_tests_bare s.version untold moment (above L c) c))

  grant_tests_same : (c : Claim) (moment : ℕ) → grant_tests r c moment ≡ grant_tests s c moment
  unfolding grant_tests
  grant_tests_same c moment = rw (sound_same r s same, world_tests_same c, parent_tests_same moment c, same.version)

  withdraw_tests_same : (w : Withdrawal) → withdraw_tests r w ≡ withdraw_tests s w
  unfolding revoke_tests clear_resource_tests clear_expired_tests
  withdraw_tests_same (revoke who x) = rw (
    sound_same r s same,
    ap (λ w. w.known who) (world_of_same r s same),
    standing_read (λ L. any (λ c. eqb c.id x) L) (λ L. any_map bare (λ c. eqb c.id x) L),
    standing_read (λ L. any (λ c. eqb c.grantor who) (chain (λ c. c.id) (λ c. c.parent) L x)) (λ L.
        ap (λ H. any (λ c. eqb c.grantor who) H) (chain_bare L x) ∙ any_map bare (λ c. eqb c.grantor who) (chain (λ c. c.id) (λ c. c.parent) L x)),
  )
  withdraw_tests_same (clear_resource who o) = rw (
    sound_same r s same,
    ap (λ w. w.known who) (world_of_same r s same),
    ap (λ w. w.listed o) (world_of_same r s same),
    ap (λ w. w.keeps who o) (world_of_same r s same),
  )
  withdraw_tests_same (clear_expired who moment) = rw (sound_same r s same, ap (λ w. w.known who) (world_of_same r s same), same.actors)

  appended_same : length r.claims.list ≡ length s.claims.list → (c : Claim) → Same (appended r c) (appended s c)
  appended_same long c = record {
    actor_count = same.actor_count;
    actors = same.actors;
    resource_count = same.resource_count;
    resources = same.resources;
    claim_count = ap (λ n. n + 1) same.claim_count;
    claims =
        ap (λ v. map (claim_as v) (take (r.claims.count + 1) (set r.claims.list r.claims.count c))) same.version
        ∙ ap (λ n. map (claim_as s.version) (take (n + 1) (set r.claims.list n c))) same.claim_count
        ∙ take_set_same (claim_as s.version) r.claims.list s.claims.list s.claims.count c long
        (ap (λ n. map (claim_as s.version) (take n r.claims.list)) (sym same.claim_count) ∙ claims_as);
    version = same.version;
  }

  holding_same : (cs ds : List Claim) → map (claim_as s.version) cs ≡ map (claim_as s.version) ds → Same (holding r cs) (holding s ds)
  holding_same cs ds e = record {
    actor_count = same.actor_count;
    actors = same.actors;
    resource_count = same.resource_count;
    resources = same.resources;
    claim_count = sym (length-map cs (claim_as s.version)) ∙ ap length e ∙ length-map ds (claim_as s.version);
    claims =
        ap (map (claim_as r.version)) (take-append_seam cs (replicate (claim_limit - length cs) no_claim))
        ∙ ap (λ v. map (claim_as v) cs) same.version ∙ e
        ∙ ap (map (claim_as s.version)) (sym (take-append_seam ds (replicate (claim_limit - length ds) no_claim)));
    version = same.version;
  }

  unstruck_same : (w : Withdrawal) → map (claim_as s.version) (unstruck (names w) r) ≡ map (claim_as s.version) (unstruck (names w) s)
  unstruck_same w =
      unstruck_as s.version w r ∙ ap (λ l. latest (strike (λ c. c.id) (λ c. c.parent) (names w) (latest l))) claims_as ∙ sym (unstruck_as s.version w s)

  unstruck_length : (w : Withdrawal) → length (unstruck (names w) r) ≡ length (unstruck (names w) s)
  unstruck_length w =
      sym (length-map (unstruck (names w) r) (claim_as s.version)) ∙ ap length (unstruck_same w) ∙ length-map (unstruck (names w) s) (claim_as s.version)

  pub granted_same : length r.claims.list ≡ length s.claims.list → (c : Claim) (moment : ℕ)
      → ((granted r c moment).outcome ≡ (granted s c moment).outcome) × Same (granted r c moment).register (granted s c moment).register
  unfolding granted
  granted_same long c moment =
      let told = ap outcome_of (grant_tests_same c moment) in
      (told, chosen_same _ _ _ _ _ _ (ap is_accepted told) (rw (stored_same c) (appended_same long (stored s.version (standing s) c))) same)

  pub withdrawn_same : (w : Withdrawal) → ((withdrawn r w).outcome ≡ (withdrawn s w).outcome)
      × ((withdrawn r w).removed ≡ (withdrawn s w).removed) × Same (withdrawn r w).register (withdrawn s w).register
  unfolding withdrawn
  withdrawn_same w =
      let told = ap outcome_of (withdraw_tests_same w) in (
        told,
        rw (withdraw_tests_same w, unstruck_length w, standing_read length (λ L. length-map L bare)),
        chosen_same _ _ _ _ _ _ (ap is_accepted told) (holding_same (unstruck (names w) r) (unstruck (names w) s) (unstruck_same w)) same,
      )
