-- The parts one behind the other, each from where the one before it ended.
use Rattle.std.proofs.Common.{◌≡◌, ap, ◌∙◌, List, ℕ}
use Rattle.register.specs.declared.Actors.{Actors}
use Rattle.register.specs.declared.Resources.{Resources}
use Rattle.register.specs.declared.Claims.{Claims}
use Rattle.register.specs.declared.Register.{Register}
use Rattle.lines.specs.Reading.{State, going, read_form, closed}
use Rattle.lines.specs.Answers.{state_of}
use Rattle.text_rules.specs.Registers.{version_form, read_actors, read_resources, read_claims, held_actors, held_resources, held_claims, register_from}
use Rattle.register_reading.specs.Runs.{run_start}
use Rattle.register_reading.proofs.read_form.Goals as goal

joined : (t : List ℕ) (version : ℕ) (begun actorsEnd resourcesEnd claimsEnd end : State) (actors : Actors) (resources : Resources) (claims : Claims) →
    version ≡ (read_form version_form (going t 1)).value → begun ≡ (read_form version_form (going t 1)).state →
    actors ≡ held_actors (read_actors begun).value → actorsEnd ≡ (read_actors begun).state →
    resources ≡ held_resources (read_resources actorsEnd).value → resourcesEnd ≡ (read_resources actorsEnd).state →
    claims ≡ held_claims (read_claims version resourcesEnd).value → claimsEnd ≡ (read_claims version resourcesEnd).state →
    end ≡ closed claimsEnd →
    (◌≡◌ {A = Register} (record { actors = actors; resources = resources; claims = claims; version = version }) (register_from t).value) × (end ≡ (register_from t).state)
unfolding register_from
joined t version begun actorsEnd resourcesEnd claimsEnd end actors resources claims v b a ae o oe k ke e =
    (rw (k, oe, o, ae, a, b, v), rw (e, ke, oe, ae, b, v))

pub returns : goal.returns
returns c =
    let end = c.finish-cursor in
    let claims = c.read_claims-third in
    let resources = c.read_resources-second in
    let actors = c.read_actors-first in
    let version = c.read_number-told in
    let s = c.args.text.now in
    let first = run_start s c.start.result c.start.ensures in
    let read =
    joined s version.result.value (state_of s version.result.cursor) (state_of s actors.result.cursor) (state_of s resources.result.cursor)
    (state_of s claims.result.cursor) (state_of s end.result) actors.result.value resources.result.value claims.result.value
    (version.ensures.value ∙ ap (λ st. (read_form version_form st).value) first)
    (version.ensures.state ∙ ap (λ st. (read_form version_form st).state) first) actors.ensures.actors actors.ensures.state
    resources.ensures.resources resources.ensures.state claims.ensures.claims claims.ensures.state end.ensures in
    record { register = read.0; state = read.1 }
