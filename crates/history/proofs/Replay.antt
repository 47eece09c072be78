-- What any calls come to: the register holds what remains in the annals, and making the remaining grants again ends in it. Assumes nothing.
use Rattle.std.proofs.Common.{◌≡◌, refl, ap, sym, subst, ◌∙◌, true, false, not, ◌&&◌, cond, List, [], ◌∷◌, ◌++◌, map, ℕ, ◌≤◌, ◌<◌, arith, ltb-true, lt-ltb, length}
use mathlib.Core.Bool.{and-true, and_assoc}
use mathlib.Core.List.{reverse-cons, reverse-reverse}
use lib.ListN.{length-map}
use Rattle.lists.specs.Tests.{cases, and_both}
use Rattle.lists.specs.Each.{all_imp, reverse_map}
use Rattle.lists.specs.Filters.{dropping_none, dropping_length, filter_hit, filter_miss, filter_none, filter_reverse}
use Rattle.lists.specs.Lists.{All, filter}
use Rattle.register.specs.Limits.{claim_limit}
use Rattle.register.specs.Register.{claims_of, Shaped}
use Rattle.register.specs.Chain.{latest, chain}
use Rattle.register.specs.declared.Claim.{Claim}
use Rattle.register.specs.declared.Register.{Register}
use Rattle.soundness_rules.specs.Sound.{sound_claims, sound, stored}
use Rattle.soundness_rules.proofs.Alike.{stored_stored}
use Rattle.soundness_rules.proofs.Registers.{SoundRegister, sound_out}
use Rattle.soundness_rules.proofs.Places.{latest_acceptable, earlier_sound}
use Rattle.soundness_rules.proofs.Striking.{strike_length}
use Rattle.soundness_rules.specs.Struck.{strike}
use Rattle.change_rules.specs.Changes.{world_in, standing, appended, holding, Withdrawal, names}
use Rattle.change_rules.proofs.Theorems.{granted_version, withdrawn_version}
use Rattle.history.specs.History.{Change, grant, changed, took, register_after, accepts, Note, Annals, claims, remains, started, wrote, kept, annals, olds, grants, History, withdraw}
use Rattle.change_rules.proofs.Grants.{grant_out, grant_in, granted_register}
use Rattle.history.proofs.Changing.{refused_register, withdrawn_register}
use Rattle.history.proofs.Holds.{Holds, holds_self, holds_appended, holds_holding, holds_same, holds_sound, changed_sound, changed_shaped}
use Rattle.history.proofs.Noting.{Fine, Kept, After, Timely, chain_claims, strike_claims, remains_noted, kept_noted, started_claims, remains_started, kept_started, remains_withdraw, kept_withdraw}

after_nil : (r : Register) → register_after r [] ≡ r
unfolding register_after
after_nil r = refl

after_snoc : (r : Register) (ks : List Change) (k : Change) → register_after r (ks ++ (k ∷ [])) ≡ changed (register_after r ks) k
unfolding register_after
after_snoc r [] k = refl
after_snoc r (j ∷ ks) k = after_snoc (changed r j) ks k

accepts_nil : (r : Register) → accepts r [] ≡ true
unfolding accepts
accepts_nil r = refl

accepts_snoc : (r : Register) (ks : List Change) (k : Change) → accepts r (ks ++ (k ∷ [])) ≡ accepts r ks && took (register_after r ks) k
unfolding register_after accepts
accepts_snoc r [] k = and-true (took r k)
accepts_snoc r (j ∷ ks) k = ap (λ b. took r j && b) (accepts_snoc (changed r j) ks k) ∙ sym (and_assoc (took r j) (accepts (changed r j) ks) (took (register_after (changed r j) ks) k))

-- every run leaves a sound register
pub after_sound : (r : Register) (ks : List Change) → sound r ≡ true → sound (register_after r ks) ≡ true
unfolding register_after
after_sound r [] h = h
after_sound r (k ∷ ks) h = after_sound (changed r k) ks (changed_sound r k h)

-- and its shape
pub after_shaped : (r : Register) (ks : List Change) → Shaped r → Shaped (register_after r ks)
unfolding register_after
after_shaped r [] h = h
after_shaped r (k ∷ ks) h = after_shaped (changed r k) ks (changed_shaped r k h)

-- and its version, of any register
changed_version : (r : Register) (k : Change) → (changed r k).version ≡ r.version
changed_version r (grant c moment) = granted_version r c moment
changed_version r (withdraw w) = withdrawn_version r w

pub after_version : (r : Register) (ks : List Change) → (register_after r ks).version ≡ r.version
unfolding register_after
after_version r [] = refl
after_version r (k ∷ ks) = after_version (changed r k) ks ∙ changed_version r k

-- in a run from r the register s holds what remains in the annals b
record State (r s : Register) (b : Annals) : Type 0 where
  held : Holds r s (claims (remains b))
  judged : sound s ≡ true
  known : Kept r.version b

held_room : (r s : Register) (b : Annals) → State r s b → length (claims (remains b)) ≤ claim_limit
held_room r s b v = rw (← v.held.count) (sound_out s v.judged).limits.claim_count

-- a grant puts the claim as it is stored behind what remains
granted_held : (r s : Register) (L : List Claim) (c : Claim) (moment : ℕ) → Holds r s L → took s (grant c moment) ≡ true
    → changed s (grant c moment) ≡ appended s (stored r.version L c)
granted_held r s L c moment held e =
    granted_register s c moment e ∙ ap (λ v. appended s (stored v (standing s) c)) held.version ∙ ap (λ K. appended s (stored r.version K c)) held.claims

state_grant : (r s : Register) (b : Annals) (c : Claim) (moment : ℕ) → State r s b → took s (grant c moment) ≡ true
    → State r (changed s (grant c moment)) (wrote r.version b (grant c moment))
state_grant r s b c moment v e =
    let told = grant_out s c moment e in
    let d : Claim = stored r.version (claims (remains b)) c in
    let room : length (claims (remains b)) < claim_limit = rw (← v.held.count) (ltb-true s.claims.count claim_limit told.room) in
    record {
      held = rw (granted_held r s (claims (remains b)) c moment v.held e, remains_noted r.version b d moment v.known)
          (holds_appended r s (claims (remains b)) d v.held room);
      judged = changed_sound s (grant c moment) v.judged;
      known = kept_noted r.version b d moment v.known told.timely (rw v.held.claims at told.lives)
          (stored_stored r.version (claims (remains b)) c);
    }

state_withdraw : (r s : Register) (b : Annals) (w : Withdrawal) → State r s b → took s (withdraw w) ≡ true
    → State r (changed s (withdraw w)) (wrote r.version b (withdraw w))
state_withdraw r s b w v e =
    let K = strike (λ c. c.id) (λ c. c.parent) (names w) (standing s) in
    let same : claims (remains (wrote r.version b (withdraw w))) ≡ K =
    ap claims (remains_withdraw r.version b w v.known.fine) ∙ sym (strike_claims (names w) (remains b))
    ∙ ap (λ L. strike (λ c. c.id) (λ c. c.parent) (names w) L) (sym v.held.claims) in
    let fewer : length K ≤ length (standing s) = strike_length (λ c. c.id) (λ c. c.parent) (names w) (standing s) in
    let stood : length (standing s) ≤ claim_limit = rw v.held.claims (held_room r s b v) in
    record {
      held = rw (withdrawn_register s w e, same) (holds_holding r s K v.held.actors v.held.resources v.held.version (omega (arith, fewer, stood)));
      judged = changed_sound s (withdraw w) v.judged;
      known = kept_withdraw r.version b w v.known;
    }

state_step : (r s : Register) (b : Annals) (k : Change) → State r s b → State r (changed s k) (cond (took s k) (wrote s.version b k) b)
state_step r s b k v = cases (took s k) (λ e. rw e (subst (λ n. State r (changed s k) (wrote n b k)) (sym v.held.version) (taken k e))) (λ e. rw (e, refused_register s k e) v)
  where
    taken : (k : Change) → took s k ≡ true → State r (changed s k) (wrote r.version b k)
    taken (grant c moment) e = state_grant r s b c moment v e
    taken (withdraw w) e = state_withdraw r s b w v e

state_run : (r s : Register) (b : Annals) (ks : List Change) → State r s b → State r (register_after s ks) (kept s b ks)
unfolding register_after kept
state_run r s b [] v = v
state_run r s b (k ∷ ks) v = state_run r (changed s k) (cond (took s k) (wrote s.version b k) b) ks (state_step r s b k v)

state_start : (r : Register) → Shaped r → sound r ≡ true → State r r (record { all = started (standing r); named = [] })
state_start r shaped h = record {
  held = rw (remains_started (standing r), started_claims (standing r)) (holds_self r shaped h);
  judged = h;
  known = kept_started r.version (standing r);
}

-- the remaining grants again, latest first
abbrev again : Note → Change
again e = grant e.claim e.clock

abbrev oldest : List Note → List Note
oldest L = filter (λ e. e.old) L

abbrev newest : List Note → List Note
newest L = filter (λ e. not e.old) L

olds_latest : (L : List Note) → olds (latest L) ≡ latest (claims (oldest L))
olds_latest L = ap claims (filter_reverse (λ e. e.old) L) ∙ sym (reverse_map (λ e. e.claim) (oldest L))

grants_latest : (L : List Note) → grants (latest L) ≡ latest (map again (newest L))
grants_latest L = ap (map again) (filter_reverse (λ e. not e.old) L) ∙ sym (reverse_map again (newest L))

-- the next of the remaining grants is accepted, where s holds those before it
module _ (r s : Register) (sr : SoundRegister r) (e : Note) (L : List Note) (held : Holds r s (claims L)) where
  next_accepted : length (claims L) < claim_limit → sound_claims (world_in r) (claims (e ∷ L)) ≡ true → Timely r.version e (chain (λ e. e.claim.id) (λ e. e.claim.parent) L e.claim.parent)
      → took s (again e) ≡ true
  next_accepted room k timely = grant_in s e.claim e.clock record {
    judged = holds_sound r s (claims L) sr held (omega (arith, room)) (earlier_sound (world_in r) e.claim (claims L) k);
    timely = timely.0;
    room = lt-ltb s.claims.count claim_limit (rw held.count room);
    fitting = rw (held.actors, held.resources, held.version, held.claims) (latest_acceptable (world_in r) e.claim (claims L) k);
    lives = rw (held.claims, chain_claims L e.claim.parent) timely.1;
  }

  next_held : length (claims L) < claim_limit → Timely r.version e (chain (λ e. e.claim.id) (λ e. e.claim.parent) L e.claim.parent)
      → took s (again e) ≡ true → Holds r (changed s (again e)) (claims (e ∷ L))
  next_held room timely accepted =
      let as_stored : stored r.version (claims L) e.claim ≡ e.claim = rw (chain_claims L e.claim.parent) timely.2 in
      rw (granted_held r s (claims L) e.claim e.clock held accepted, as_stored) (holds_appended r s (claims L) e.claim held room)

-- from a register that holds the remaining claims of the start, the calls are accepted and end in one that holds all that remains
record Remade (r s : Register) (L : List Note) (calls : List Change) : Type 0 where
  accepted : accepts s calls ≡ true
  held : Holds r (register_after s calls) (claims L)

remade_none : (r s : Register) (L : List Note) → Holds r s (claims L) → Remade r s L []
remade_none r s L h = record { accepted = accepts_nil s; held = rw (after_nil s) h }

remade_next : (r s : Register) (e : Note) (L : List Note) (calls : List Change) → accepts s calls ≡ true → took (register_after s calls) (again e) ≡ true
    → Holds r (changed (register_after s calls) (again e)) (claims (e ∷ L)) → Remade r s (e ∷ L) (calls ++ (again e ∷ []))
remade_next r s e L calls before accepted held = record {
  accepted = accepts_snoc s calls (again e) ∙ and_both (accepts s calls) (took (register_after s calls) (again e)) before accepted;
  held = rw (after_snoc s calls (again e)) held;
}

-- behind an entry of the start there are only such
olds_only : (e : Note) (L : List Note) → e.old ≡ true → All (After e) L → All (λ (d : Note). d.old ≡ true) (e ∷ L)
olds_only e L o h = (o, all_imp (After e) (λ d. d.old ≡ true) (λ d q. q.1 o) L h)

oldest_all : (L : List Note) → All (λ (d : Note). d.old ≡ true) L → oldest L ≡ L
oldest_all L h = dropping_none (λ M (d : Note). not d.old) L (all_imp (λ d. d.old ≡ true) (λ d. not d.old ≡ false) (λ d q. ap not q) L h)

newest_none : (L : List Note) → All (λ (d : Note). d.old ≡ true) L → latest (map again (newest L)) ≡ []
newest_none L h = ap (λ K. latest (map again K)) (filter_none (λ (d : Note). not d.old) L
    (all_imp (λ d. d.old ≡ true) (λ d. not d.old ≡ false) (λ d q. ap not q) L h))

oldest_past : (e : Note) (L : List Note) → e.old ≡ false → oldest (e ∷ L) ≡ oldest L
oldest_past e L o = filter_miss (λ (d : Note). d.old) e L o

newest_next : (e : Note) (L : List Note) → e.old ≡ false → latest (map again (newest (e ∷ L))) ≡ latest (map again (newest L)) ++ (again e ∷ [])
newest_next e L o = ap (λ K. latest (map again K)) (filter_hit (λ (d : Note). not d.old) e L (ap not o)) ∙ reverse-cons (again e) (map again (newest L))

remade_old : (r s : Register) (L : List Note) → All (λ (d : Note). d.old ≡ true) L → Holds r s (claims (oldest L)) → Remade r s L (latest (map again (newest L)))
remade_old r s L olds from = rw (newest_none L olds) (remade_none r s L (rw (oldest_all L olds) at from))

remade : (r s : Register) → SoundRegister r → (L : List Note) → Fine r.version L → length (claims L) ≤ claim_limit → sound_claims (world_in r) (claims L) ≡ true
    → Holds r s (claims (oldest L)) → Remade r s L (latest (map again (newest L)))
remade r s sr [] h room k from = remade_old r s [] tt from
remade r s sr (e ∷ L) h room k from = cases e.old (λ o. remade_old r s (e ∷ L) (olds_only e L o h.0.0) from) (λ o.
    let fewer : length (claims L) < claim_limit = omega (arith, room) in
    let calls : List Change = latest (map again (newest L)) in
    let before : Remade r s L calls =
    remade r s sr L h.1 (omega (arith, room)) (earlier_sound (world_in r) e.claim (claims L) k) (rw (oldest_past e L o) at from) in
    let accepted = next_accepted r (register_after s calls) sr e L before.held fewer k (h.0.1.0 o) in
    rw (newest_next e L o) (remade_next r s e L calls before.accepted accepted (next_held r (register_after s calls) sr e L before.held fewer (h.0.1.0 o) accepted)))

-- the starting claims that remain are not more than fit
oldest_room : (L : List Note) → length (claims L) ≤ claim_limit → length (claims (oldest L)) ≤ claim_limit
oldest_room L room = omega (arith, room, length-map L (λ e. e.claim), length-map (oldest L) (λ e. e.claim), dropping_length (λ M (e : Note). not e.old) L)

again_holds : (r s : Register) → SoundRegister r → (b : Annals) → State r s b
    → Remade r (holding r (latest (claims (oldest (remains b))))) (remains b) (latest (map again (newest (remains b))))
again_holds r s sr b v =
    let good = rw (v.held.claims, v.held.actors, v.held.resources, v.held.version) at (sound_out s v.judged).claims in
    remade r (holding r (latest (claims (oldest (remains b))))) sr (remains b) v.known.fine (held_room r s b v) good
    (holds_holding r r (claims (oldest (remains b))) refl refl refl (oldest_room (remains b) (held_room r s b v)))

-- the theorem
pub history : (r : Register) → Shaped r → sound r ≡ true → (ks : List Change) → History r ks
history r shaped h ks =
    let b : Annals = annals r ks in
    let v : State r (register_after r ks) b = state_run r r (record { all = started (standing r); named = [] }) ks (state_start r shaped h) in
    let made = again_holds r (register_after r ks) (sound_out r h) b v in
    record {
      actors = v.held.actors;
      resources = v.held.resources;
      version = v.held.version;
      holds = sym (reverse-reverse (claims_of (register_after r ks).claims)) ∙ ap latest v.held.claims ∙ reverse_map (λ e. e.claim) (remains b);
      again = rw (olds_latest (remains b), grants_latest (remains b)) made.accepted;
      same = rw (olds_latest (remains b), grants_latest (remains b)) (holds_same r _ (register_after r ks) (claims (remains b)) made.held v.held);
    }
