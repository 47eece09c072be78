-- The register's line and its three sections are written one behind the other, and the text of a sound register fits (`text_length`).
use Rattle.std.proofs.Common.{◌+◌, ◌≤◌, ◌++◌, arith, length, take}
use Rattle.register.specs.Limits.{actor_limit, resource_limit, claim_limit}
use Rattle.register.specs.Register.{actors_of, resources_of}
use Rattle.columns.specs.Sheet.{claims_in}
use Rattle.soundness.specs.Judged.{register_by}
use Rattle.soundness_rules.proofs.Registers.{sound_out}
use Rattle.lines.specs.Reading.{form_line}
use Rattle.text_rules.specs.Keys.{actors_key, resources_key, claims_key}
use Rattle.text_rules.specs.Records.{section_text}
use Rattle.text_rules.specs.Registers.{actor_text, resource_text, claim_text, version_form, register_text}
use Rattle.text_rules.proofs.Lengths.{text_length}
use Rattle.buffers.specs.Laws.{writing_start, writing_put, writing_next, writing_room, writing_left, writing_last}
use Rattle.register_writing.proofs.Laws.{paths_fit_lem}
use Rattle.register_writing.proofs.compose.Goals as goal

pub put_actors-resources_at-requires : goal.put_actors-resources_at-requires
unfolding register_text
put_actors-resources_at-requires c =
    let a = c.args in
    let whole = register_by a.version a.a a.o a.sheet.now a.n in
    let actors = section_text actors_key actor_limit actor_text (actors_of a.a) in
    let resources = section_text resources_key resource_limit resource_text (resources_of a.o) in
    let claims = section_text claims_key claim_limit (claim_text a.version) (take a.n (claims_in a.sheet.now)) in
    let room : 0 + length (register_text whole) ≤ length a.buf.now = omega (arith, text_length whole c.requires.0, c.requires.1) in
    let begun =
    writing_put (form_line version_form a.version) (actors ++ (resources ++ claims)) room
    (writing_start 0 (register_text whole) a.buf.now) c.put_line-actors_at.ensures.behind c.put_line-actors_at.ensures.written in
    (writing_room actors (resources ++ claims) room begun, (sound_out whole c.requires.0).limits.actor_count)

pub put_resources-claims_at-requires : goal.put_resources-claims_at-requires
unfolding register_text
put_resources-claims_at-requires c =
    let a = c.args in
    let whole = register_by a.version a.a a.o a.sheet.now a.n in
    let actors = section_text actors_key actor_limit actor_text (actors_of a.a) in
    let resources = section_text resources_key resource_limit resource_text (resources_of a.o) in
    let claims = section_text claims_key claim_limit (claim_text a.version) (take a.n (claims_in a.sheet.now)) in
    let room : 0 + length (register_text whole) ≤ length a.buf.now = omega (arith, text_length whole c.requires.0, c.requires.1) in
    let begun =
    writing_put (form_line version_form a.version) (actors ++ (resources ++ claims)) room
    (writing_start 0 (register_text whole) a.buf.now) c.put_line-actors_at.ensures.behind c.put_line-actors_at.ensures.written in
    let peopled = writing_next actors (resources ++ claims) room begun c.put_actors-resources_at.ensures.behind c.put_actors-resources_at.ensures.written in
    (writing_room resources claims room peopled, (sound_out whole c.requires.0).limits.resource_count, paths_fit_lem whole c.requires.0)

pub put_claims-requires : goal.put_claims-requires
unfolding register_text
put_claims-requires c =
    let a = c.args in
    let whole = register_by a.version a.a a.o a.sheet.now a.n in
    let actors = section_text actors_key actor_limit actor_text (actors_of a.a) in
    let resources = section_text resources_key resource_limit resource_text (resources_of a.o) in
    let claims = section_text claims_key claim_limit (claim_text a.version) (take a.n (claims_in a.sheet.now)) in
    let room : 0 + length (register_text whole) ≤ length a.buf.now = omega (arith, text_length whole c.requires.0, c.requires.1) in
    let begun =
    writing_put (form_line version_form a.version) (actors ++ (resources ++ claims)) room
    (writing_start 0 (register_text whole) a.buf.now) c.put_line-actors_at.ensures.behind c.put_line-actors_at.ensures.written in
    let peopled = writing_next actors (resources ++ claims) room begun c.put_actors-resources_at.ensures.behind c.put_actors-resources_at.ensures.written in
    let furnished = writing_next resources claims room peopled c.put_resources-claims_at.ensures.behind c.put_resources-claims_at.ensures.written in
    (writing_left room furnished, (sound_out whole c.requires.0).limits.claim_count)

pub returns : goal.returns
unfolding register_text
returns c =
    let a = c.args in
    let whole = register_by a.version a.a a.o a.sheet.now a.n in
    let actors = section_text actors_key actor_limit actor_text (actors_of a.a) in
    let resources = section_text resources_key resource_limit resource_text (resources_of a.o) in
    let claims = section_text claims_key claim_limit (claim_text a.version) (take a.n (claims_in a.sheet.now)) in
    let room : 0 + length (register_text whole) ≤ length a.buf.now = omega (arith, text_length whole c.requires.0, c.requires.1) in
    let begun =
    writing_put (form_line version_form a.version) (actors ++ (resources ++ claims)) room
    (writing_start 0 (register_text whole) a.buf.now) c.put_line-actors_at.ensures.behind c.put_line-actors_at.ensures.written in
    let peopled = writing_next actors (resources ++ claims) room begun c.put_actors-resources_at.ensures.behind c.put_actors-resources_at.ensures.written in
    let furnished = writing_next resources claims room peopled c.put_resources-claims_at.ensures.behind c.put_resources-claims_at.ensures.written in
    let all = writing_last room furnished c.put_claims.ensures.behind c.put_claims.ensures.written in
    record { length = omega (arith, all.0); written = all.1 }
