-- The walk through the claims has come to place i. Assumes nothing.
use Rattle.std.proofs.Common.{◌≡◌, refl, ap, sym, ◌∙◌, Bool, true, false, ◌&&◌, cond, List, map, ℕ, ◌+◌, ◌<◌, ◌≤◌, arith, eqb-true, ne_eqb, ltb-true, eqb, ltb, length, get_or, set, length-set, get_or-set_same, get_or-set_other}
use borrow.Author.Tests.{eqb-false}
use lib.ListN.{length-map, get_or-eq_default}
use Rattle.lists.specs.Tests.{cases, and_right}
use Rattle.register.specs.Limits.{resource_limit, claim_limit, hop_limit}
use Rattle.register.specs.Register.{claims_of, no_resource}
use Rattle.register.specs.Chain.{latest, hops_of, live, current}
use Rattle.register.specs.declared.Claim.{Claim}
use Rattle.register.specs.declared.Register.{Register}
use Rattle.soundness_rules.specs.Sound.{sound}
use Rattle.columns.specs.Columns.{resource_id, resources_to}
use Rattle.columns.specs.Laws.{up_to_length}
use Rattle.columns.specs.Sheet.{claim_at}
use Rattle.lookup.specs.Walks.{sheet_few, sheet_at}
use Rattle.paper.specs.Cells.{cell_limit, ClaimEntered}
use Rattle.paper.specs.Paper.{claim_stands, Filled, Walkable}
use Rattle.paper.proofs.Chaining.{ups_long, up_cases, hops_few, hops_next, lives_next}
use Rattle.paper.proofs.Turning.{filled_passed, filled_entered, entered_long}

and_second : (a b : Bool) → b ≡ false → a && b ≡ false
and_second true b e = e
and_second false b e = refl

-- the remarks on the claims before place i
pub record Remarked (r : Register) (moment i : ℕ) (hops : List ℕ) (lives : List Bool) : Type 0 where
  pub hops_long : length hops ≡ claim_limit
  pub lives_long : length lives ≡ claim_limit
  pub hops_told : (j : ℕ) → j < i → get_or hops j 0 ≡ hops_of (latest (claims_of r.claims)) (claim_stands r j)
  pub lives_told : (j : ℕ) → j < i → get_or lives j false ≡ live moment (latest (claims_of r.claims)) (claim_stands r j)

pub record Walking (r : Register) (sheet ups reports : List ℕ) (actor owner moment i : ℕ) (own theirs hops : List ℕ) (lives : List Bool) : Type 0 where
  pub known : Walkable r sheet ups reports
  pub room : length r.claims.list ≡ claim_limit
  pub space : length r.resources.list ≡ resource_limit
  pub within : i ≤ r.claims.count
  pub remarked : Remarked r moment i hops lives
  pub actors : Filled r moment actor i own
  pub long : length theirs ≡ cell_limit
  pub owners : (actor ≡ owner → ⊥) → Filled r moment owner i theirs

module _ {r : Register} {sheet ups reports : List ℕ} {actor owner moment i : ℕ} {own theirs hops : List ℕ} {lives : List Bool}
    (s : Walking r sheet ups reports actor owner moment i own theirs hops lives) where
  pub reports_long : length reports ≡ resource_limit
  reports_long =
      ap length s.known.ids
      ∙ length-map (resources_to r.resources).list resource_id
      ∙ up_to_length no_resource r.resources.count r.resources.list
      ∙ s.space

  module _ (h : i < r.claims.count) where
    abbrev all : List Claim
    all = latest (claims_of r.claims)

    abbrev claim : Claim
    claim = claim_stands r i

    abbrev whole : sound r ≡ true
    whole = s.known.soundly

    -- it is read in the sheet
    read_claim_lem : {c : Claim} → c ≡ claim_at sheet i → c ≡ claim
    read_claim_lem read = read ∙ ap (λ l. claim_at l i) s.known.claims ∙ sheet_at r s.room whole i h

    pub place_room : i < claim_limit
    place_room = omega (arith, h, sheet_few r s.room whole)

    pub ups_room : i < length ups
    ups_room = rw s.known.parents (ups_long r whole s.room i h)

    -- the parent's place is an earlier one, or past them all
    up_lent : {A : Type 0} → (get_or ups i 0 < i → A) → (get_or ups i 0 ≡ claim_limit → A) → A
    up_lent f g = up_cases r whole s.room i h (λ before. f (rw s.known.parents before)) (λ past. g (rw s.known.parents past))

    -- the parent's hop count is within the limit, or there is none
    pub parent_few : get_or hops (get_or ups i 0) 0 ≤ hop_limit
    parent_few =
        up_lent
        (λ before.
        omega (arith, s.remarked.hops_told (get_or ups i 0) before, hops_few r whole s.room (get_or ups i 0) (omega (arith, before, h))))
        (λ past. let none = get_or-eq_default hops 0 {n = get_or ups i 0} (omega (arith, past, s.remarked.hops_long)) in omega (arith, none))

    -- the remark on the claim, by its parent's
    hops_here : cond (ltb (get_or ups i 0) i) (get_or hops (get_or ups i 0) 0 + 1) 0 ≡ hops_of all claim
    hops_here =
        let lent : hops_of all claim ≡ cond (ltb (get_or ups i 0) i) (hops_of all (claim_stands r (get_or ups i 0)) + 1) 0 =
        rw s.known.parents (hops_next r whole s.room i h) in
        cases (ltb (get_or ups i 0) i)
        (λ t. ap (λ n. cond (ltb (get_or ups i 0) i) (n + 1) 0) (s.remarked.hops_told (get_or ups i 0) (ltb-true (get_or ups i 0) i t)) ∙ sym lent)
        (λ t. rw t (sym (rw t at lent)))

    lives_here : current moment claim && cond (ltb (get_or ups i 0) i) (get_or lives (get_or ups i 0) false) true ≡ live moment all claim
    lives_here =
        let lent : live moment all claim ≡ current moment claim && cond (ltb (get_or ups i 0) i) (live moment all (claim_stands r (get_or ups i 0))) true =
        rw s.known.parents (lives_next r whole s.room i h moment) in
        cases (ltb (get_or ups i 0) i)
        (λ t. ap (λ b. current moment claim && cond (ltb (get_or ups i 0) i) b true) (s.remarked.lives_told (get_or ups i 0) (ltb-true (get_or ups i 0) i t)) ∙ sym lent)
        (λ t. rw t (sym (rw t at lent)))

    -- one remark more
    module _ {c : Claim} {steps : ℕ} {now source : Bool} (read : c ≡ claim_at sheet i)
        (counted : steps ≡ cond (ltb (get_or ups i 0) i) (get_or hops (get_or ups i 0) 0 + 1) 0) (itself : now ≡ current moment c)
        (above : source ≡ cond (ltb (get_or ups i 0) i) (get_or lives (get_or ups i 0) false) true) where
      alive : now && source ≡ live moment all claim
      alive = ap (λ b. b && source) (itself ∙ ap (current moment) (read_claim_lem read)) ∙ ap (λ b. current moment claim && b) above ∙ lives_here

      remarked_next : Remarked r moment (i + 1) (set hops i steps) (set lives i (now && source))
      remarked_next = record {
        hops_long = length-set hops i steps ∙ s.remarked.hops_long;
        lives_long = length-set lives i (now && source) ∙ s.remarked.lives_long;
        hops_told = λ j below. cases (eqb j i)
            (λ e. let here : j ≡ i = eqb-true j i e in
            rw here (get_or-set_same hops i steps 0 (omega (arith, place_room, s.remarked.hops_long)) ∙ counted ∙ hops_here))
            (λ e. let other : (j ≡ i → ⊥) = eqb-false j i e in
            get_or-set_other hops i j steps 0 other ∙ s.remarked.hops_told j (omega (arith, other, below)));
        lives_told = λ j below. cases (eqb j i)
            (λ e. let here : j ≡ i = eqb-true j i e in
            rw here (get_or-set_same lives i (now && source) false (omega (arith, place_room, s.remarked.lives_long)) ∙ alive))
            (λ e. let other : (j ≡ i → ⊥) = eqb-false j i e in
            get_or-set_other lives i j (now && source) false other ∙ s.remarked.lives_told j (omega (arith, other, below)));
      }

      -- whose claim it is, as it is read
      held_as : (x : ℕ) {b : Bool} → (now && source) && eqb c.holder x ≡ b → live moment all claim && eqb claim.holder x ≡ b
      held_as x told = ap (λ b. b && eqb claim.holder x) (sym alive) ∙ ap (λ k. (now && source) && eqb k.holder x) (sym (read_claim_lem read)) ∙ told

      -- the claim as it is entered
      entered_as : (cells next : List ℕ) → ClaimEntered cells reports r.resources c i next
          → ClaimEntered cells (map resource_id (resources_to r.resources).list) r.resources claim i next
      entered_as cells next entered = rw (s.known.ids, read_claim_lem read) at entered

      -- the actor holds it, and it lives
      pub walking_own : (next : List ℕ) → (now && source) && eqb c.holder actor ≡ true → ClaimEntered own reports r.resources c i next
          → Walking r sheet ups reports actor owner moment (i + 1) next theirs (set hops i steps) (set lives i (now && source))
      walking_own next held entered =
          let lives : live moment all claim && eqb claim.holder actor ≡ true = held_as actor held in
          let holder : claim.holder ≡ actor = eqb-true claim.holder actor (and_right (live moment all claim) (eqb claim.holder actor) lives) in
          record {
            known = s.known;
            room = s.room;
            space = s.space;
            within = omega (arith, h);
            remarked = remarked_next;
            actors = filled_entered r whole s.room moment actor i h s.space own next s.actors lives (entered_as own next entered);
            long = s.long;
            owners = λ other. filled_passed r whole s.room moment owner i h theirs (s.owners other)
                (and_second (live moment all claim) (eqb claim.holder owner) (ne_eqb claim.holder owner (λ same. other (sym holder ∙ same))));
          }

      -- the owner holds it, and it lives
      pub walking_theirs : (next : List ℕ) → (now && source) && eqb c.holder actor ≡ false → (now && source) && eqb c.holder owner ≡ true
          → ClaimEntered theirs reports r.resources c i next
          → Walking r sheet ups reports actor owner moment (i + 1) own next (set hops i steps) (set lives i (now && source))
      walking_theirs next unheld held entered =
          let lives : live moment all claim && eqb claim.holder owner ≡ true = held_as owner held in
          record {
            known = s.known;
            room = s.room;
            space = s.space;
            within = omega (arith, h);
            remarked = remarked_next;
            actors = filled_passed r whole s.room moment actor i h own s.actors (held_as actor unheld);
            long = entered_long r whole s.room moment owner i h s.space theirs next (entered_as theirs next entered) ∙ s.long;
            owners = λ other. filled_entered r whole s.room moment owner i h s.space theirs next (s.owners other) lives (entered_as theirs next entered);
          }

      -- neither holds it, or it does not live
      pub walking_neither : (now && source) && eqb c.holder actor ≡ false → (now && source) && eqb c.holder owner ≡ false
          → Walking r sheet ups reports actor owner moment (i + 1) own theirs (set hops i steps) (set lives i (now && source))
      walking_neither unheld unowned =
          record {
            known = s.known;
            room = s.room;
            space = s.space;
            within = omega (arith, h);
            remarked = remarked_next;
            actors = filled_passed r whole s.room moment actor i h own s.actors (held_as actor unheld);
            long = s.long;
            owners = λ other. filled_passed r whole s.room moment owner i h theirs (s.owners other) (held_as owner unowned);
          }
