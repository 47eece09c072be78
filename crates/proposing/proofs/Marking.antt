-- What the marks of a register's claims and what is signed by them are in 02's words. Assumes nothing.
use Rattle.std.proofs.Common.{◌≡◌, refl, sym, ap, ◌∙◌, Bool, true, false, not, ◌&&◌, ◌||◌, cond, List, [], ◌∷◌, map, ℕ, zero, suc, ◌-◌, ◌+◌, ◌≤◌, ◌<◌, arith, lt-ltb, le-ltb, eqb, ltb, length, take, get_or, length-take}
use mathlib.Core.Path.{fun_ext}
use mathlib.Core.Bool.{and-true, and-false}
use mathlib.Core.List.{map-map}
use lib.ListN.{length-map}
use Rattle.lists.specs.Tests.{cases}
use Rattle.lists.specs.Lists.{All, counted}
use Rattle.lists.specs.Each.{all_imp, all_none}
use Rattle.lists.specs.Counts.{counted_below, counted_first}
use Rattle.lists.specs.Fills.{filled_at}
use Rattle.rights.specs.Rights.{delegating, has_right, bars_machine, worth_of}
use Rattle.register.specs.Limits.{claim_limit, left_limit, weight_limit, moment_end, tells_left}
use Rattle.register.specs.Register.{claims_of, no_claim, Shaped}
use Rattle.register.specs.Chain.{latest, above, chain_of, circling, live}
use Rattle.register.specs.Laws.{circling_map}
use Rattle.register.specs.declared.Claim.{Claim}
use Rattle.register.specs.declared.Register.{Register}
use Rattle.columns.specs.Columns.{grantor_of, holder_of, weight_of, claim_id, parent_of, places_up}
use Rattle.columns.specs.Sheet.{sheet_of, column_of, claim_at, claims_in, id_column, parent_column, grantor_column, holder_column, weight_column, sheet_limit}
use Rattle.columns.specs.SheetLaws.{column_natural, sheet_long, sheet_claims, claims_in_at, claims_in_length}
use Rattle.lookup.specs.Finding.{asked, earlier_places}
use Rattle.lookup.specs.Laws.{tabled_length}
use Rattle.lookup.specs.Walks.{above_natural, sheet_numbered, sheet_few}
use Rattle.soundness_rules.specs.Sound.{sound}
use Rattle.soundness_rules.proofs.Sameness.{sound_same}
use Rattle.soundness_rules.proofs.Chains.{place_above}
use Rattle.change_rules.specs.Changes.{world_in, standing}
use Rattle.actions.specs.declared.Usage.{Usage}
use Rattle.gate_rules.specs.Gate.{first_of}
use Rattle.gate_rules.specs.Places.{latest_split, first_hit, first_miss, first_none}
use Rattle.soundness.specs.Judged.{findings_by}
use Rattle.soundness.specs.declared.Findings.{Findings}
use Rattle.claim_judging.specs.AloneLaws.{world_natural}
use Rattle.uses.specs.Sights.{ends_in, ups_of}
use Rattle.uses.specs.Ends.{ends_natural}
use Rattle.uses.specs.Relying.{claim_standing}
use Rattle.uses.specs.SightsLaws.{around, stands_at, sound_at}
use Rattle.gate.specs.Judged.{counts_of, sheet_ends}
use Rattle.gate.specs.Sheets.{sheeted, sheeted_same, sheeted_shaped, column_natural_expiries}
use Rattle.proposals.specs.Proposals.{least_free, candidate}
use Rattle.proposals.specs.Marks.{marked, may_sign, signable, signed_first, or_else, first_signed}
use Rattle.proposing.specs.Planned.{hands_taken, rooms_of, marked_by, mark_at, marks_by, marked_of, first_marked, signing_by, blank_for, marks_for, drawn_by}
use Rattle.proposing.proofs.Rooming.{rooms_read, left_after, room_natural}

-- ---- the first of a list

first_nothing : {A : Type 0} (p : A → Bool) → first_of p [] ≡ []
unfolding first_of
first_nothing p = refl

first_mapped : {A B : Type 0} (f : A → B) (p : B → Bool) (L : List A) → first_of p (map f L) ≡ map f (first_of (λ a. p (f a)) L)
first_mapped f p [] = rw (first_nothing p, first_nothing (λ a. p (f a)))
first_mapped f p (a ∷ L) =
    cases (p (f a)) (λ e. rw (first_hit p (f a) (map f L) e, first_hit (λ a. p (f a)) a L e))
    (λ e. rw (first_miss p (f a) (map f L) e, first_miss (λ a. p (f a)) a L e) (first_mapped f p L))

first_alike : {A : Type 0} (p q : A → Bool) (L : List A) → All (λ a. p a ≡ q a) L → first_of p L ≡ first_of q L
first_alike p q [] h = first_nothing p ∙ sym (first_nothing q)
first_alike p q (a ∷ L) h =
    cases (q a) (λ e. first_hit p a L (h.0 ∙ e) ∙ sym (first_hit q a L e))
    (λ e. first_miss p a L (h.0 ∙ e) ∙ first_alike p q L h.1 ∙ sym (first_miss q a L e))

-- ---- what is left after so many steps

left_whole : (n : ℕ) → left_after 0 n ≡ left_limit
left_whole zero = refl
left_whole (suc n) = rw (left_whole n)

left_less : (n : ℕ) → left_after 1 n ≡ left_limit - n
left_less zero = refl
left_less (suc n) = rw (left_less n) (omega arith)

-- the tests of a mark, as the code and as the definition order them: version 1, version 2
ordered : (a l d g c : Bool) (hands : Bool) → (((((a && l) && d) && g) && (hands && not c))) ≡ a && (l && (d && (g && (hands && (not c && true)))))
ordered false l d g c hands = refl
ordered true false d g c hands = refl
ordered true true false g c hands = refl
ordered true true true false c hands = refl
ordered true true true true c hands = ap (λ b. hands && b) (sym (and-true (not c)))

room_test_lem : (circle : Bool) (n : ℕ) → ltb 0 (cond circle 0 n) ≡ ltb 0 n && not circle
room_test_lem true n = le-ltb 0 0 (omega arith) ∙ sym (and-false (ltb 0 n))
room_test_lem false n = sym (and-true (ltb 0 n))

module _ (u : Usage) (moment : ℕ) (c : Claim) (end : ℕ) (live : Bool) (timely : ltb moment end ≡ live) (circle : Bool) (n : ℕ) where
  abbrev on_used : Bool
  on_used = eqb c.resource u.resource

  abbrev delegates : Bool
  delegates = has_right c.rights delegating

  abbrev has : Bool
  has = has_right c.rights u.right

  abbrev wanted : ℕ → Bool
  wanted hands = on_used && (live && (delegates && (has && (ltb 0 hands && (not circle && true)))))

  marked_one : (version : ℕ) → tells_left version ≡ false → marked_by version u moment c end (cond circle 0 (left_after 1 n)) ≡ wanted (left_limit - n)
  marked_one version e =
      rw (e, timely, room_test_lem circle (left_after 1 n), left_less n)
      (and-true ((((on_used && live) && delegates) && has) && (ltb 0 (left_limit - n) && not circle)) ∙ ordered on_used live delegates has circle (ltb 0 (left_limit - n)))

  marked_two : (version : ℕ) → tells_left version ≡ true → marked_by version u moment c end (cond circle 0 (left_after 0 n)) ≡ wanted c.left
  marked_two version e =
      rw (e, timely, room_test_lem circle (left_after 0 n), left_whole n, lt-ltb 0 left_limit (omega arith))
      (swapped on_used live delegates has (not circle) (ltb 0 c.left))
    where
      swapped : (a l d g c hands : Bool) → (((((a && l) && d) && g) && c)) && hands ≡ a && (l && (d && (g && (hands && (c && true)))))
      swapped false l d g c hands = refl
      swapped true false d g c hands = refl
      swapped true true false g c hands = refl
      swapped true true true false c hands = refl
      swapped true true true true true hands = sym (and-true hands)
      swapped true true true true false hands = sym (and-false hands)

-- what is drawn below the claims at some places, where it may be
signed_below : {A B C : Type 0} (f : B → C) (g : A → B) (may : Bool) (places : List A) → cond may (map (λ j. f (g j)) places) [] ≡ map f (cond may (map g places) [])
signed_below f g true places = sym (map-map f g places)
signed_below f g false places = refl

-- ---- the sheet of a sound register
module _ (r : Register) (shaped : Shaped r) (h : sound r ≡ true) where
  abbrev sheet : List ℕ
  sheet = sheet_of r.claims

  abbrev n : ℕ
  n = r.claims.count

  abbrev ups : List ℕ
  ups = earlier_places (column_of id_column sheet) (column_of parent_column sheet) n

  full : length sheet ≡ sheet_limit
  full = sheet_long r.claims

  few : n ≤ claim_limit
  few = sheet_few r shaped.claims h

  wholly : sound (sheeted r) ≡ true
  wholly = sound_same (sheeted r) r (sheeted_same r shaped.claims) ∙ h

  same_claims : claims_of (sheeted r).claims ≡ claims_of r.claims
  same_claims = sheet_claims r.claims shaped.claims

  ups_read : ups ≡ ups_of (sheeted r)
  ups_read = rw (column_natural sheet full claim_id id_column (omega arith) (λ g. refl), column_natural sheet full parent_of parent_column (omega arith) (λ g. refl))

  ends_read : sheet_ends sheet ups n ≡ ends_in (sheeted r)
  ends_read = rw (ups_read, column_natural sheet full weight_of weight_column (omega arith) (λ g. refl), column_natural_expiries r shaped wholly)

  ups_long : length ups ≡ claim_limit
  unfolding earlier_places
  ups_long = tabled_length _ (asked n (column_of parent_column sheet)) (omega arith)

  module _ (j : ℕ) (inside : j < n) where
    within : j < length (claims_of (sheeted r).claims)
    within = omega (arith, few, length-take n (claims_in sheet), claims_in_length sheet)

    here : claim_standing (sheeted r) j ≡ claim_at sheet j
    here = claims_in_at sheet j

    -- the chain above the claim at a place
    above_read : map (claim_at sheet) (places_up ups j) ≡ above (standing r) (claim_at sheet j)
    above_read =
        let at = stands_at (sheeted r) (sheeted_shaped r shaped) wholly j within in
        let c : Claim = claim_standing (sheeted r) j in
        let before : above (latest (claims_of (sheeted r).claims)) c ≡ above (latest (take j (claims_in sheet))) c =
        ap (λ l. above l c) (ap latest at.split ∙ latest_split at.before c at.after)
        ∙ place_above (around (sheeted r) (sheeted_shaped r shaped) wholly) (latest at.after) c (latest (take j (claims_in sheet)))
        (sound_at (sheeted r) (sheeted_shaped r shaped) wholly j within) in
        above_natural sheet full n few (sheet_numbered r shaped.claims h) j inside
        ∙ ap (above (latest (take j (claims_in sheet)))) (sym here)
        ∙ sym before
        ∙ ap (λ l. above (latest l) c) same_claims
        ∙ ap (above (standing r)) here

    live_read : (moment : ℕ) → ltb moment moment_end ≡ true → ltb moment (get_or (sheet_ends sheet ups n) j 0) ≡ live moment (standing r) (claim_at sheet j)
    live_read moment timely =
        ap (λ l. ltb moment (get_or l j 0)) ends_read
        ∙ ends_natural (sheeted r) (sheeted_shaped r shaped) wholly j within moment timely
        ∙ ap (λ l. live moment (latest l) (claim_standing (sheeted r) j)) same_claims
        ∙ ap (live moment (standing r)) here

    module _ (x : ℕ) where
      circle_read : circling (λ i. get_or (column_of grantor_column sheet) i 0) (λ i. get_or (column_of holder_column sheet) i 0) (j ∷ places_up ups j) x
          ≡ circling grantor_of holder_of (chain_of (standing r) (claim_at sheet j)) x
      circle_read =
          sym (circling_map (claim_at sheet) grantor_of holder_of (j ∷ places_up ups j) x)
          ∙ ap (λ l. circling grantor_of holder_of (claim_at sheet j ∷ l) x) above_read

      room_read : (step : ℕ) → get_or (rooms_of step x ups (column_of grantor_column sheet) (column_of holder_column sheet) n) j 0
          ≡ cond (circling grantor_of holder_of (chain_of (standing r) (claim_at sheet j)) x) 0 (left_after step (length (above (standing r) (claim_at sheet j))))
      room_read step =
          let grantors = column_of grantor_column sheet in
          let holders = column_of holder_column sheet in
          let long : length (places_up ups j) ≡ length (above (standing r) (claim_at sheet j)) =
          sym (length-map (places_up ups j) (claim_at sheet)) ∙ ap length above_read in
          rooms_read step x ups grantors holders n j inside
          ∙ room_natural step x ups grantors holders j (omega (arith, inside, few, ups_long))
          ∙ ap (λ b. cond b 0 (left_after step (length (places_up ups j)))) circle_read
          ∙ ap (λ m. cond (circling grantor_of holder_of (chain_of (standing r) (claim_at sheet j)) x) 0 (left_after step m)) long

      module _ (u : Usage) (moment : ℕ) (timely : ltb moment moment_end ≡ true) where
        abbrev rooms : List ℕ
        rooms = rooms_of (hands_taken r.version) x ups (column_of grantor_column sheet) (column_of holder_column sheet) n

        abbrev ends : List ℕ
        ends = sheet_ends sheet ups n

        -- the mark of the claim at a place
        mark_natural : mark_at r.version u moment sheet ends rooms j ≡ marked r x u moment (claim_at sheet j)
        unfolding marked
        mark_natural =
            let c : Claim = claim_at sheet j in
            let circle : Bool = circling grantor_of holder_of (chain_of (standing r) c) x in
            let m : ℕ = length (above (standing r) c) in
            let lives : Bool = live moment (standing r) c in
            cases (tells_left r.version)
            (λ e. ap (marked_by r.version u moment c (get_or ends j 0)) (room_read (hands_taken r.version))
            ∙ ap (λ step. marked_by r.version u moment c (get_or ends j 0) (cond circle 0 (left_after step m))) (ap (λ b. cond b 0 1) e)
            ∙ marked_two u moment c (get_or ends j 0) lives (live_read moment timely) circle m r.version e
            ∙ rw e)
            (λ e. ap (marked_by r.version u moment c (get_or ends j 0)) (room_read (hands_taken r.version))
            ∙ ap (λ step. marked_by r.version u moment c (get_or ends j 0) (cond circle 0 (left_after step m))) (ap (λ b. cond b 0 1) e)
            ∙ marked_one u moment c (get_or ends j 0) lives (live_read moment timely) circle m r.version e
            ∙ rw e)

  -- the register's claims, read at their places
  claims_read : claims_of r.claims ≡ map (claim_at sheet) (counted 0 n)
  claims_read =
      let long : length (take n (claims_in sheet)) ≡ n = omega (arith, few, length-take n (claims_in sheet), claims_in_length sheet) in
      sym same_claims
      ∙ sym (counted_first no_claim (claims_in sheet) n)
      ∙ ap (λ m. map (λ j. get_or (claims_in sheet) j no_claim) (counted 0 m)) long
      ∙ ap (λ (f : ℕ → Claim). map f (counted 0 n)) (fun_ext (λ j. claims_in_at sheet j))

  abbrev findings : Findings
  findings = findings_by r.version r.actors r.resources sheet n

  module _ (x : ℕ) (u : Usage) (moment : ℕ) (timely : ltb moment moment_end ≡ true) where
    abbrev marks : List Bool
    marks = marks_for r.version (counts_of r) findings sheet x u moment

    mark_at_lem : (j : ℕ) → j < n → get_or marks j false ≡ marked r x u moment (claim_at sheet j)
    unfolding marks_by
    mark_at_lem j inside =
        filled_at claim_limit (mark_at r.version u moment sheet (ends j inside x u moment timely) (rooms j inside x u moment timely)) n false j false inside
        ∙ mark_natural j inside x u moment timely

    module _ (g : ℕ) where
      -- the first claim that g may sign below
      first_signable : first_of (signable r x u moment g) (claims_of r.claims)
          ≡ cond (may_sign r u g) (map (claim_at sheet) (first_marked (column_of holder_column sheet) marks n g)) []
      unfolding first_marked
      first_signable =
          ap (first_of (signable r x u moment g)) claims_read
          ∙ first_mapped (claim_at sheet) (signable r x u moment g) (counted 0 n)
          ∙ cases (may_sign r u g)
          (λ e. ap (map (claim_at sheet)) (first_alike (λ j. signable r x u moment g (claim_at sheet j)) (marked_of (column_of holder_column sheet) marks g) (counted 0 n)
          (all_imp (λ j. j < 0 + n) (λ j. signable r x u moment g (claim_at sheet j) ≡ marked_of (column_of holder_column sheet) marks g j)
          (λ j below. rw (e, mark_at_lem j (omega (arith, below)))) (counted 0 n) (counted_below 0 n)))
          ∙ rw e)
          (λ e. ap (map (claim_at sheet)) (first_none (λ j. signable r x u moment g (claim_at sheet j)) (counted 0 n)
          (all_none (λ j. signable r x u moment g (claim_at sheet j)) (counted 0 n)
          (all_imp (λ j. j < 0 + n) (λ j. signable r x u moment g (claim_at sheet j) ≡ false)
          (λ j below. rw e (and-false (eqb (claim_at sheet j).holder g))) (counted 0 n) (counted_below 0 n))))
          ∙ rw e)

      -- what g would sign
      signing_natural : signing_by (counts_of r) findings sheet marks (blank_for sheet n x u) g ≡ signed_first r x u moment g
      unfolding may_sign
      signing_natural =
          let world = world_natural r.version r.actors r.resources {people = findings.actors} {things = findings.resources} refl refl in
          let keeps = ap (λ w. w.keeps g u.resource) world in
          let may = ap (λ w. not (w.machine g) || (not (w.ownerless g) && not (bars_machine (worth_of u.right)))) world in
          let free : least_free (take n (claims_in sheet)) ≡ least_free (claims_of r.claims) = ap least_free same_claims in
          let below : Claim → Claim = λ p. candidate r x u g p.id p.weight in
          rw (keeps, may, free, first_signable)
          (ap (cond ((world_in r).keeps g u.resource) (candidate r x u g 0 weight_limit ∷ []))
          (signed_below below (claim_at sheet) (may_sign r u g) (first_marked (column_of holder_column sheet) marks n g)))

    pub drawn_natural : (gs : List ℕ) → drawn_by r.version (counts_of r) findings sheet x u moment gs ≡ first_signed r x u moment gs
    unfolding drawn_by
    drawn_natural [] = refl
    drawn_natural (g ∷ gs) = rw (signing_natural g) (ap (or_else (signed_first r x u moment g)) (drawn_natural gs))
