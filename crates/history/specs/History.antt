-- Believed: What any calls of grant and withdrawal come to: the record of all that ever stood, what is left of it, and the statement. To read it:
-- `Change`, `changed` and `took` run the calls by the very definitions that the contracts of grant, revocation and clearing cite. `annals` is kept beside
-- the run and asks it one thing only, whether a call was accepted. `survivors` says what should stand at the end. `History` says that just this stands.
-- `wrote` looks at `remains`, which begs no question: by `holds`, for the calls so far, it is what the register holds.
use Rattle.std.specs.Prelude.{◌≡◌, Bool, true, false, not, ◌&&◌, cond, List, [], ◌∷◌, ◌++◌, map, ℕ, eqb, length}
use Rattle.lists.specs.Lists.{any, filter}
use Rattle.register.specs.Register.{Same, claims_of}
use Rattle.register.specs.Chain.{latest, chain}
use Rattle.register.specs.declared.Claim.{Claim}
use Rattle.register.specs.declared.Register.{Register}
use Rattle.refusals.specs.Refusals.{is_accepted}
use Rattle.soundness_rules.specs.Sound.{stored}
use Rattle.change_rules.specs.Changes.{standing, granted, holding, Withdrawal, names, withdrawn}

-- a call: the claim to grant and the clock reading; a withdrawal
pub data Change : Type 0 where
  grant : Claim → ℕ → Change
  withdraw : Withdrawal → Change

-- the register that a call hands back, and whether the call was accepted
abbrev pub changed : Register → Change → Register
changed r (grant c moment) = (granted r c moment).register
changed r (withdraw w) = (withdrawn r w).register

abbrev pub took : Register → Change → Bool
took r (grant c moment) = is_accepted (granted r c moment).outcome
took r (withdraw w) = is_accepted (withdrawn r w).outcome

-- the register at the end of calls, and whether each of them was accepted
unfoldable pub register_after : Register → List Change → Register
register_after r [] = r
register_after r (k ∷ ks) = register_after (changed r k) ks

unfoldable pub accepts : Register → List Change → Bool
accepts r [] = true
accepts r (k ∷ ks) = took r k && accepts (changed r k) ks

-- A claim that ever stood: whether it stood at the start, else the clock reading of its grant; its serial number, which is never used
-- again, while its id may be; and the serial numbers on the chain above it when it came.
pub record Note : Type 0 where
  pub claim : Claim
  pub old : Bool
  pub clock : ℕ
  pub serial : ℕ
  pub line : List ℕ

-- every claim that ever stood, latest first, and the serial numbers of those that an accepted withdrawal named while they stood
pub record Annals : Type 0 where
  pub all : List Note
  pub named : List ℕ

abbrev pub claims : List Note → List Claim
claims es = map (λ e. e.claim) es

abbrev pub serials : List Note → List ℕ
serials es = map (λ e. e.serial) es

abbrev pub among : List ℕ → ℕ → Bool
among named s = any (eqb s) named

-- what is struck: what is named, with all drawn from it
abbrev pub gone : List ℕ → Note → Bool
gone named e = any (among named) (e.serial ∷ e.line)

-- what is not struck, latest first
abbrev pub remains : Annals → List Note
remains b = filter (λ e. not (gone b.named e)) b.all

-- a claim that comes, with the notes of those that stand then, latest first
abbrev pub entered : Bool → ℕ → List Note → ℕ → Claim → Note
entered old clock es serial c = record {
  claim = c;
  old = old;
  clock = clock;
  serial = serial;
  line = serials (chain (λ e. e.claim.id) (λ e. e.claim.parent) es c.parent);
}

-- the claims that stand at the start, latest first
unfoldable pub started : List Claim → List Note
started [] = []
started (c ∷ earlier) = let es = started earlier in entered true 0 es (length earlier) c ∷ es

-- what an accepted call writes in a version: a grant a new note, of the claim as it is stored, a withdrawal the serial numbers of what it names
-- among those that stand
abbrev pub wrote : ℕ → Annals → Change → Annals
wrote version b (grant c moment) = record {
  all = entered false moment (remains b) (length b.all) (stored version (claims (remains b)) c) ∷ b.all;
  named = b.named;
}
wrote version b (withdraw w) = record { all = b.all; named = serials (filter (λ e. names w e.claim) (remains b)) ++ b.named }

-- the annals b, kept on through calls from the register r
unfoldable pub kept : Register → Annals → List Change → Annals
kept r b [] = b
kept r b (k ∷ ks) = kept (changed r k) (cond (took r k) (wrote r.version b k) b) ks

abbrev pub annals : Register → List Change → Annals
annals r ks = kept r (record { all = started (standing r); named = [] }) ks

-- what is left of all that ever stood, earliest first; of it the claims of the start; and the others' grants at their clock readings
abbrev pub survivors : Register → List Change → List Note
survivors r ks = latest (remains (annals r ks))

abbrev pub olds : List Note → List Claim
olds es = claims (filter (λ e. e.old) es)

abbrev pub grants : List Note → List Change
grants es = map (λ e. grant e.claim e.clock) (filter (λ e. not e.old) es)

-- Make any calls from a register. Strike every claim that an accepted withdrawal named while it stood, with all drawn from it. The register
-- at the end holds exactly what is left, in the order in which it came, over the same actors and resources and in the same version. From the
-- claims of the start that are left, the grants that are left, made again at their clock readings and without any other call, are each accepted;
-- and that ends in the same register.
pub record History (r : Register) (ks : List Change) : Type 0 where
  pub actors : (register_after r ks).actors ≡ r.actors
  pub resources : (register_after r ks).resources ≡ r.resources
  pub version : (register_after r ks).version ≡ r.version
  pub holds : claims_of (register_after r ks).claims ≡ claims (survivors r ks)
  pub again : accepts (holding r (olds (survivors r ks))) (grants (survivors r ks)) ≡ true
  pub same : Same (register_after (holding r (olds (survivors r ks))) (grants (survivors r ks))) (register_after r ks)
