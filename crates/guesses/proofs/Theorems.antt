-- What is proved of a guessed number: it tells the one who guesses nothing that is hidden from them. Assumes nothing.
use Rattle.std.proofs.Common.{Err, ◌≡◌, true, false, List, [], ◌∷◌, ℕ}
use Rattle.lists.specs.Lists.{All}
use Rattle.register.specs.declared.Register.{Register}
use Rattle.soundness_rules.specs.Sound.{sound}
use Rattle.actions.specs.declared.Usage.{Usage}
use Rattle.actions.specs.declared.Action.{Action}
use Rattle.actions.specs.declared.Plan.{Plan}
use Rattle.actions.specs.declared.Violation.TheVariants.{NotCovered}
use Rattle.gate_rules.specs.Gate.{covers, use_violation, hops_for, gated}
use Rattle.gate_rules.specs.Plans.{actions_of, planned}
use Rattle.gate_rules.proofs.Coverage.{not_covered_violation, not_covered_hops}
use Rattle.refusals.specs.declared.Refusal.TheVariants.{NotPermitted}
use Rattle.fingerprints.specs.Fingerprints.{book_fits, attaching, fetching, attached, fetched}
use Rattle.fingerprints.specs.declared.Book.{Book}
use Rattle.coverage_table.specs.Table.{plainly_gated}
use Rattle.guesses.specs.Alike.{record_of, owner_of, hidden, LooksAlike}
use Rattle.guesses.proofs.Hiding as hiding
use Rattle.guesses.proofs.Blind as blind
use Rattle.guesses.proofs.Planning as planning
use Rattle.guesses.proofs.Owners as owners
use Rattle.guesses.proofs.Books as books

-- 1. The gate's whole answer, verdict, violations and hop counts, is one on registers that look alike to the actor.
pub guess_blind : (r s : Register) (a : Action) → LooksAlike r s a → gated r a ≡ gated s a
guess_blind = blind.guess_blind

-- 2a. What is hidden from x is not covered by x, at any moment and with any right, in any register.
pub hidden_uncovered : (r : Register) (moment x : ℕ) (u : Usage) → hidden r x u.resource ≡ true → covers r moment x u ≡ false
hidden_uncovered = hiding.actor_uncovered

-- 2b. Nor by the owner of x.
pub hidden_uncovered_owner : (r : Register) (moment x : ℕ) (u : Usage) → hidden r x u.resource ≡ true → covers r moment (owner_of r x) u ≡ false
hidden_uncovered_owner = hiding.owner_uncovered_lem

-- 2c. So a use of it is of kind 4 with its position.
pub hidden_violation : (r : Register) (moment x n : ℕ) (u : Usage) → hidden r x u.resource ≡ true → use_violation r moment x n u ≡ NotCovered n ∷ []
hidden_violation r moment x n u h = not_covered_violation r moment x n u (hidden_uncovered r moment x u h)

-- 2d. And its hop count is 0.
pub hidden_hops : (r : Register) (moment x : ℕ) (u : Usage) → hidden r x u.resource ≡ true → hops_for r moment x u ≡ 0
hidden_hops r moment x u h = not_covered_hops r moment x u (hidden_uncovered r moment x u h)

-- 3. The plan's whole answer is one too, where the registers look alike to the actor of each of its actions.
pub plan_blind : (r s : Register) → sound r ≡ true → sound s ≡ true → (p : Plan) → All (λ a. LooksAlike r s a) (actions_of p) → planned r p ≡ planned s p
plan_blind = planning.plan_blind

-- 4. The premise on the owner's record follows from that on the actor's: the owner is a human, who has none.
pub owner_record_same : (r s : Register) → sound r ≡ true → sound s ≡ true → (x : ℕ) → record_of r x ≡ record_of s x
    → record_of r (owner_of r x) ≡ record_of s (owner_of s x)
owner_record_same = owners.owner_record_same

-- 5a. An attach is told the same, with the same book handed back, whatever book is lent.
pub attach_blind : (b : Book) (r s : Register) (x n moment : ℕ) (f : List ℕ) → LooksAlike r s (attaching x n moment)
    → attached b r x n moment f ≡ attached b s x n moment f
attach_blind = books.attach_blind

-- 5b. So is a fetch, with the same fingerprint.
pub fetch_blind_register : (b : Book) (r s : Register) (x n moment : ℕ) → LooksAlike r s (fetching x n moment)
    → fetched b r x n moment ≡ fetched b s x n moment
fetch_blind_register = books.fetch_blind_register

-- 5c. With two books that fit, an attach is told 27 with the one where it is with the other.
pub attach_permission : (b c : Book) → book_fits b ≡ true → book_fits c ≡ true → (r s : Register) (x n moment : ℕ) (f g : List ℕ)
    → LooksAlike r s (attaching x n moment) → (attached b r x n moment f).outcome ≡ Err NotPermitted
    → (attached c s x n moment g).outcome ≡ Err NotPermitted
attach_permission = books.attach_permission

-- 5d. So is a fetch.
pub fetch_permission : (b c : Book) → book_fits b ≡ true → book_fits c ≡ true → (r s : Register) (x n moment : ℕ)
    → LooksAlike r s (fetching x n moment) → (fetched b r x n moment).outcome ≡ Err NotPermitted
    → (fetched c s x n moment).outcome ≡ Err NotPermitted
fetch_permission = books.fetch_permission

-- 6. The plain gate's whole answer is one too.
pub plain_blind : (r s : Register) (a : Action) → LooksAlike r s a → plainly_gated r a ≡ plainly_gated s a
plain_blind = books.plain_blind
