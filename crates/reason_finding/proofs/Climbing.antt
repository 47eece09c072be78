-- The walk up the chain of a claim by the places of the parents: what is put into the array on the way, and the first that is not current. Assumes nothing.
use Rattle.std.proofs.Common.{◌≡◌, refl, sym, ap, ◌∙◌, true, false, not, ◌&&◌, List, [], ◌∷◌, ◌++◌, map, append-nil, ℕ, zero, suc, ◌+◌, ◌-◌, ◌≤◌, ◌<◌, arith, ltb-true, ltb-false, ltb, length, take, get_or, set, replicate, length-append, take_all}
use mathlib.Core.List.{map-append}
use lib.ListN.{length-map}
use lib.Seq.{take-append_seam, append_snoc}
use Rattle.lists.specs.Tests.{cases, and_left, and_right}
use Rattle.lists.specs.Fills.{put_first}
use Rattle.register.specs.Limits.{hop_limit}
use Rattle.register.specs.Chain.{current}
use Rattle.register.specs.declared.Claim.{Claim}
use Rattle.columns.specs.Columns.{places_up}
use Rattle.columns.specs.Laws.{places_up_at, places_up_none}
use Rattle.columns.specs.Sheet.{claim_at}
use Rattle.soundness_rules.specs.Roots.{root_of}
use Rattle.gate_rules.specs.Gate.{first_of}
use Rattle.gate_rules.specs.Places.{first_hit, first_miss}
use Rattle.reasons.specs.Reasons.{first_id}
use Rattle.reasons.specs.Uses.{chain_limit}
use Rattle.reasons.specs.declared.Told.{Told}
use Rattle.reason_finding.specs.Finding.{chain_told, ended_by}

-- the root of a chain with one more behind it
root_behind : (c : Claim) (higher : List Claim) (d : Claim) → root_of c (higher ++ (d ∷ [])) ≡ d
root_behind c [] d = refl
root_behind c (e ∷ higher) d = root_behind e higher d

-- of the places above `from`, those in `passed` are passed, and the walk stands at `at`
pub record Climbing (sheet ups : List ℕ) (from : ℕ) (chain : List ℕ) (keeper at up count : ℕ) : Type 0 where
  pub passed : List ℕ
  pub above : places_up ups from ≡ passed ++ places_up ups at
  pub next : up ≡ get_or ups at at
  pub many : count ≡ suc (length passed)
  pub most : count ≤ chain_limit
  pub held : chain ≡ map (λ d. d.id) (claim_at sheet from ∷ map (claim_at sheet) passed) ++ replicate (chain_limit - count) 0
  pub kept : keeper ≡ (root_of (claim_at sheet from) (map (claim_at sheet) passed)).grantor

module _ {sheet ups : List ℕ} {from : ℕ} where
  module _ {chain : List ℕ} {keeper at up count : ℕ} (s : Climbing sheet ups from chain keeper at up count) where
    pub climbing_next : (ltb up at && ltb count chain_limit) ≡ true → {c : Claim} {further : ℕ} → c ≡ claim_at sheet up → further ≡ get_or ups up up
        → Climbing sheet ups from (set chain count c.id) c.grantor up further (count + 1)
    climbing_next t {c} e f =
        let below : up < at = ltb-true up at (and_left (ltb up at) (ltb count chain_limit) t) in
        let room : count < chain_limit = ltb-true count chain_limit (and_right (ltb up at) (ltb count chain_limit) t) in
        let ids : List ℕ = map (λ d. d.id) (claim_at sheet from ∷ map (claim_at sheet) s.passed) in
        let long : length ids ≡ count =
        length-map (claim_at sheet from ∷ map (claim_at sheet) s.passed) (λ d. d.id) ∙ ap suc (length-map s.passed (claim_at sheet)) ∙ sym s.many in
        let more : map (claim_at sheet) (s.passed ++ (up ∷ [])) ≡ map (claim_at sheet) s.passed ++ (claim_at sheet up ∷ []) = map-append (claim_at sheet) s.passed (up ∷ []) in
        record {
          passed = s.passed ++ (up ∷ []);
          above = s.above ∙ ap (λ l. s.passed ++ l) (step below) ∙ sym (append_snoc s.passed up (places_up ups up));
          next = f;
          many = omega (arith, s.many, length-append s.passed (up ∷ []));
          most = omega arith;
          held = ap (λ l. set l count c.id) s.held ∙ put_first ids chain_limit count 0 c.id long room
              ∙ ap (λ d. (ids ++ (d.id ∷ [])) ++ replicate (chain_limit - (count + 1)) 0) e
              ∙ sym (ap (λ l. l ++ replicate (chain_limit - (count + 1)) 0) (ap (λ l. (claim_at sheet from).id ∷ map (λ d. d.id) l) more
              ∙ ap (λ l. (claim_at sheet from).id ∷ l) (map-append (λ d. d.id) (map (claim_at sheet) s.passed) (claim_at sheet up ∷ []))));
          kept = ap (λ d. d.grantor) e ∙ sym (ap (λ l. (root_of (claim_at sheet from) l).grantor) more
              ∙ ap (λ d. d.grantor) (root_behind (claim_at sheet from) (map (claim_at sheet) s.passed) (claim_at sheet up)));
        }
      where
        step : up < at → places_up ups at ≡ up ∷ places_up ups up
        step h = places_up_at ups at (rw (← s.next) h) ∙ ap (λ j. j ∷ places_up ups j) (sym s.next)

    -- after the walk: what was passed are the places above, at most 16
    all_passed : (ltb up at && ltb count chain_limit) ≡ false → take hop_limit (places_up ups from) ≡ s.passed
    all_passed t =
        cases (ltb up at)
        (λ e. let full : length s.passed ≡ hop_limit = omega (arith, s.many, s.most, ltb-false count chain_limit (other e t)) in
        ap (take hop_limit) s.above ∙ ap (λ n. take n (s.passed ++ places_up ups at)) (sym full) ∙ take-append_seam s.passed (places_up ups at))
        (λ e. let few : length s.passed ≤ hop_limit = omega (arith, s.many, s.most) in
        ap (take hop_limit) (s.above ∙ ap (λ l. s.passed ++ l) (places_up_none ups at (rw (← s.next) (ltb-false up at e))) ∙ append-nil s.passed)
        ∙ take_all hop_limit s.passed few)
      where
        other : ltb up at ≡ true → (ltb up at && ltb count chain_limit) ≡ false → ltb count chain_limit ≡ false
        other e t = rw e at t

    pub climbing_done : (ltb up at && ltb count chain_limit) ≡ false → (kind : ℕ)
        → ◌≡◌ {A = Told} (record { kind = kind; count = count; chain = chain; keeper = keeper; ended = 0 }) (chain_told kind sheet ups from 0)
    climbing_done t kind =
        let long : count ≡ length (claim_at sheet from ∷ map (claim_at sheet) s.passed) = s.many ∙ ap suc (sym (length-map s.passed (claim_at sheet))) in
        let ids : length (map (λ d. d.id) (claim_at sheet from ∷ map (claim_at sheet) s.passed)) ≡ count =
        length-map (claim_at sheet from ∷ map (claim_at sheet) s.passed) (λ d. d.id) ∙ sym long in
        rw (all_passed t, ids, s.held, s.kept, ← long)

-- ---- the first that is not current

-- at a place, with so many steps left
abbrev first_ended : List ℕ → List ℕ → ℕ → ℕ → ℕ → ℕ
first_ended sheet ups moment at left =
    first_id (first_of (λ d. not (current moment d)) (claim_at sheet at ∷ map (claim_at sheet) (take left (places_up ups at))))

pub record Looking (sheet ups : List ℕ) (moment from at steps : ℕ) : Type 0 where
  pub within : steps ≤ chain_limit
  pub ahead : steps ≤ hop_limit → ended_by sheet ups moment from ≡ first_ended sheet ups moment at (hop_limit - steps)
  pub behind : hop_limit < steps → ended_by sheet ups moment from ≡ 0

module _ {sheet ups : List ℕ} {moment from : ℕ} where
  pub looking_start : Looking sheet ups moment from from 0
  looking_start = record { within = omega arith; ahead = λ h. refl; behind = λ h. absurd (omega (arith, h)) }

  module _ {at steps : ℕ} (s : Looking sheet ups moment from at steps) (h : steps < chain_limit) {c : Claim} (e : c ≡ claim_at sheet at) where
    pub looking_hit : not (current moment c) ≡ true → c.id ≡ ended_by sheet ups moment from
    looking_hit t =
        ap (λ d. d.id) e
        ∙ sym (s.ahead (omega (arith, h)) ∙ ap first_id (first_hit (λ d. not (current moment d)) (claim_at sheet at) (map (claim_at sheet) (take (hop_limit - steps) (places_up ups at))) (sym (ap (λ d. not (current moment d)) e) ∙ t)))

    -- this one is current
    module _ (t : not (current moment c) ≡ false) where
      passed_on : ended_by sheet ups moment from ≡ first_id (first_of (λ d. not (current moment d)) (map (claim_at sheet) (take (hop_limit - steps) (places_up ups at))))
      passed_on = s.ahead (omega (arith, h)) ∙ ap first_id (first_miss (λ d. not (current moment d)) (claim_at sheet at) (map (claim_at sheet) (take (hop_limit - steps) (places_up ups at))) (sym (ap (λ d. not (current moment d)) e) ∙ t))

      none_left : (l : List ℕ) → l ≡ [] → first_id (first_of (λ d. not (current moment d)) (map (claim_at sheet) l)) ≡ 0
      unfolding first_of
      none_left l k = rw k

      take_none : (n : ℕ) → ◌≡◌ {A = List ℕ} (take n []) []
      take_none zero = refl
      take_none (suc n) = refl

      pub looking_root : {up : ℕ} → up ≡ get_or ups at at → at ≤ up → 0 ≡ ended_by sheet ups moment from
      looking_root f k =
          sym (passed_on ∙ none_left (take (hop_limit - steps) (places_up ups at))
          (ap (take (hop_limit - steps)) (places_up_none ups at (rw (← f) k)) ∙ take_none (hop_limit - steps)))

      pub looking_next : {up : ℕ} → up ≡ get_or ups at at → up < at → Looking sheet ups moment from up (steps + 1)
      looking_next {up} f k =
          let step : places_up ups at ≡ up ∷ places_up ups up = places_up_at ups at (rw (← f) k) ∙ ap (λ j. j ∷ places_up ups j) (sym f) in
          record {
            within = omega (arith, h);
            ahead = λ room. let left : hop_limit - steps ≡ suc (hop_limit - (steps + 1)) = omega (arith, room) in
                passed_on ∙ ap (λ l. first_id (first_of (λ d. not (current moment d)) (map (claim_at sheet) (take (hop_limit - steps) l)))) step
                ∙ ap (λ n. first_id (first_of (λ d. not (current moment d)) (map (claim_at sheet) (take n (up ∷ places_up ups up))))) left;
            behind = λ past. let none : hop_limit - steps ≡ 0 = omega (arith, past, h) in
                passed_on ∙ none_left (take (hop_limit - steps) (places_up ups at)) (ap (λ n. take n (places_up ups at)) none);
          }

  pub looking_done : {at steps : ℕ} → Looking sheet ups moment from at steps → chain_limit ≤ steps → 0 ≡ ended_by sheet ups moment from
  looking_done s h = sym (s.behind (omega (arith, h)))
