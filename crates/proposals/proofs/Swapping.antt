-- A grant with another id, another weight, no expiry and no hands left in the stead of an accepted one: it is accepted too where the id is free and the weight is
-- not above the parent's, and covers what the other covered where it has weight. Assumes nothing.
use Rattle.std.proofs.Common.{◌≡◌, refl, ap, sym, ◌∙◌, true, false, not, ◌||◌, List, [], ◌∷◌, ℕ, ◌≤◌, ◌<◌, le-leb, lt-ltb, eqb, leb, ltb}
use Rattle.lists.specs.Tests.{cases, and_right, and_both, or_other, or_second}
use Rattle.lists.specs.Lists.{any, every}
use Rattle.lists.specs.Each.{ands_out}
use Rattle.rights.specs.Rights.{delegating, is_rights, has_right, has_rights}
use Rattle.register.specs.Limits.{is_id, id_limit, weight_limit, left_limit, tells_left, moment_end}
use Rattle.register.specs.Register.{Shaped}
use Rattle.register.specs.Chain.{above, circling, current}
use Rattle.register.specs.declared.Claim.{Claim}
use Rattle.register.specs.declared.Register.{Register}
use Rattle.soundness_rules.specs.Sound.{World, claim_fits, names_stand, root_kept, machine_may, drawn_from, fewer_left, over_chain, drawn, fresh, stored}
use Rattle.soundness_rules.proofs.Laws.{ranged_in, acceptable_out, acceptable_in}
use Rattle.change_rules.specs.Changes.{world_in, standing, appended}
use Rattle.actions.specs.declared.Usage.{Usage}
use Rattle.gate_rules.specs.Gate.{contains, covering}
use Rattle.gate_rules.proofs.Coverage.{covering_out, covering_in}
use Rattle.change_rules.proofs.Grants.{GrantPassed, stored_passed}
use Rattle.proposals.specs.Appending.{new_above}
use Rattle.proposals.specs.Hands.{fewer_in, fewer_hands}

-- the same grant with this id and weight, that never expires and may not be passed on
abbrev pub stead : Claim → ℕ → ℕ → Claim
stead c id weight = record {
  id = id;
  parent = c.parent;
  grantor = c.grantor;
  holder = c.holder;
  resource = c.resource;
  rights = c.rights;
  weight = weight;
  left = 0;
  expiry = 0;
}

-- an id and a weight that may stand in the stead of c's: the id is in range and free, the weight in range and at most the parent's
pub record Fitting (r : Register) (c : Claim) (id weight : ℕ) : Type 0 where
  pub least : 1 ≤ id
  pub greatest : id ≤ id_limit
  pub free : any (λ d. eqb id d.id) (standing r) ≡ false
  pub light : weight ≤ weight_limit
  pub below : (p : Claim) (higher : List Claim) → above (standing r) c ≡ p ∷ higher → weight ≤ p.weight

stead_fits : (version : ℕ) (c : Claim) (id weight : ℕ) → 1 ≤ id → id ≤ id_limit → weight ≤ weight_limit → claim_fits version c ≡ true
    → claim_fits version (stead c id weight) ≡ true
unfolding claim_fits
stead_fits version c id weight least greatest light h =
    let told = ands_out (is_id c.id ∷ leb c.parent id_limit ∷ is_id c.grantor ∷ is_id c.holder ∷ is_id c.resource ∷ is_rights c.rights
    ∷ leb c.weight weight_limit ∷ (not (tells_left version) || leb c.left left_limit) ∷ ltb c.expiry moment_end ∷ []) h in
    and_both (is_id id) _ (ranged_in 1 id_limit id least greatest)
    (and_both (leb c.parent id_limit) _ told.1.0
    (and_both (is_id c.grantor) _ told.1.1.0
    (and_both (is_id c.holder) _ told.1.1.1.0
    (and_both (is_id c.resource) _ told.1.1.1.1.0
    (and_both (is_rights c.rights) _ told.1.1.1.1.1.0
    (and_both (leb weight weight_limit) _ (le-leb weight weight_limit light)
    (and_both (not (tells_left version) || true) _ (or_second (not (tells_left version)) true refl) refl)))))))

stead_stands : (w : World) (c : Claim) (id weight : ℕ) → names_stand w (stead c id weight) ≡ names_stand w c
unfolding names_stand
stead_stands w c id weight = refl

stead_kept : (w : World) (c : Claim) (id weight : ℕ) → root_kept w (stead c id weight) ≡ root_kept w c
unfolding root_kept
stead_kept w c id weight = refl

stead_may : (w : World) (c : Claim) (id weight : ℕ) → machine_may w (stead c id weight) ≡ machine_may w c
unfolding machine_may
stead_may w c id weight = refl

stead_fresh : (L : List Claim) (c : Claim) (id weight : ℕ) → any (λ d. eqb id d.id) L ≡ false → fresh L (stead c id weight) ≡ true
unfolding fresh
stead_fresh L c id weight free = rw free

stead_from : (p c : Claim) (id weight : ℕ) → weight ≤ p.weight → drawn_from p c ≡ true → drawn_from p (stead c id weight) ≡ true
unfolding drawn_from
stead_from p c id weight light h =
    let told = ands_out (eqb p.holder c.grantor ∷ eqb p.resource c.resource ∷ has_right p.rights delegating
    ∷ has_rights p.rights c.rights ∷ leb c.weight p.weight ∷ []) h in
    rw (told.0, told.1.0, told.1.1.0, told.1.1.1.0, le-leb weight p.weight light)

stead_over : (version : ℕ) (H : List Claim) (c : Claim) (id weight : ℕ) → ((p : Claim) (higher : List Claim) → H ≡ p ∷ higher → weight ≤ p.weight)
    → over_chain version H c ≡ true → over_chain version H (stead c id weight) ≡ true
unfolding over_chain
stead_over version [] c id weight light h = h
stead_over version (p ∷ higher) c id weight light h =
    let told = ands_out (drawn_from p c ∷ fewer_left version p higher c ∷ not (circling (λ d. d.grantor) (λ d. d.holder) (p ∷ higher) c.holder) ∷ []) h in
    and_both (drawn_from p (stead c id weight)) _ (stead_from p c id weight (light p higher refl) told.0)
    (and_both (fewer_left version p higher (stead c id weight)) _
    (fewer_in version p higher (stead c id weight) refl (fewer_hands version p higher c told.1.0))
    (and_both (not (circling (λ d. d.grantor) (λ d. d.holder) (p ∷ higher) c.holder)) _ told.1.1.0 refl))

stead_drawn : (version : ℕ) (L : List Claim) (c : Claim) (id weight : ℕ) → ((p : Claim) (higher : List Claim) → above L c ≡ p ∷ higher → weight ≤ p.weight)
    → drawn version L c ≡ true → drawn version L (stead c id weight) ≡ true
unfolding drawn
stead_drawn version L c id weight light h =
    cases (eqb c.parent 0) (λ e. rw e)
    (λ e. rw e (stead_over version (above L c) c id weight light (or_other (eqb c.parent 0) (over_chain version (above L c) c) h e)))

module _ (r : Register) (c : Claim) (moment : ℕ) (h : GrantPassed r c moment) (id weight : ℕ) (f : Fitting r c id weight) where
  -- the grant in its stead is accepted
  pub stead_passed : GrantPassed r (stead c id weight) moment
  stead_passed =
      let told = acceptable_out (world_in r) (standing r) c h.fitting in
      record {
        judged = h.judged;
        timely = h.timely;
        room = h.room;
        fitting = acceptable_in (world_in r) (standing r) (stead c id weight) record {
          by_itself = record {
            fits = stead_fits r.version c id weight f.least f.greatest f.light told.by_itself.fits;
            stands = stead_stands (world_in r) c id weight ∙ told.by_itself.stands;
            kept = stead_kept (world_in r) c id weight ∙ told.by_itself.kept;
            granted = stead_may (world_in r) c id weight ∙ told.by_itself.granted;
          };
          over_earlier = record {
            apart = stead_fresh (standing r) c id weight f.free;
            chained = stead_drawn r.version (standing r) c id weight f.below told.over_earlier.chained;
          };
        };
        lives = h.lives;
      }

-- the chain above a claim that covers is current
pub covering_above : (r : Register) (c : Claim) (x : ℕ) (u : Usage) (moment : ℕ) → Shaped r → GrantPassed r c moment → covering (appended r c) moment x u c ≡ true
    → every (current moment) (above (standing r) c) ≡ true
covering_above r c x u moment shaped h k =
    ap (every (current moment)) (sym (new_above r c moment shaped h))
    ∙ and_right (current moment c) (every (current moment) (above (standing (appended r c)) c)) (covering_out (appended r c) moment x u c k).lives

-- and, where it has weight, the grant in its stead covers what it covered, both as they are stored
pub stead_covering : (r : Register) (c : Claim) (x : ℕ) (u : Usage) (moment : ℕ) → Shaped r → GrantPassed r c moment → (id weight : ℕ)
    → Fitting r c id weight → 0 < weight
    → covering (appended r (stored r.version (standing r) c)) moment x u (stored r.version (standing r) c) ≡ true
    → covering (appended r (stored r.version (standing r) (stead c id weight))) moment x u (stored r.version (standing r) (stead c id weight)) ≡ true
unfolding contains
stead_covering r c x u moment shaped h id weight f weighs k =
    let old : Claim = stored r.version (standing r) c in
    let new : Claim = stored r.version (standing r) (stead c id weight) in
    let told = covering_out (appended r old) moment x u old k in
    covering_in (appended r new) moment x u new record {
      held = told.held;
      lives = rw (new_above r new moment shaped (stored_passed r (stead c id weight) moment (stead_passed r c moment h id weight f)), lt-ltb 0 weight weighs)
          (covering_above r old x u moment shaped (stored_passed r c moment h) k);
      has = told.has;
      containing = told.containing;
    }
