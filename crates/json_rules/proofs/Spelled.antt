-- Members that fit, with runs of blanks around any token, are read; and an accepted text is such a
-- spelling of its members. Assumes nothing.
use Rattle.std.proofs.Common.{Ok, ℕ, ◌<◌, ◌≡◌, ap, ◌∙◌, true, List}
use Rattle.lists.specs.Lists.{All}
use Rattle.register.specs.Limits.{moment_end}
use Rattle.json_tokens.specs.Tokens.{tokens}
use Rattle.json_tokens.specs.Spelling.{Spelt, blanks, spaced}
use Rattle.json_tokens.specs.SpellingLaws.{tokens_spaced}
use Rattle.json_rules.specs.Members.{Member}
use Rattle.json_rules.specs.Actions.{is_full, read_whole, json_read, object_tokens}
use Rattle.json_rules.specs.Fitting.{MemberFits}
use Rattle.json_rules.proofs.Spelling.{object_spelt}
use Rattle.json_rules.proofs.Spacing.{text_spelled}
use Rattle.json_rules.proofs.ReadWritten.{read_complete}
use Rattle.json_rules.proofs.WrittenRead.{read_members_lem}

pub json_spelled : (ws : List (List ℕ)) (ms : List Member) (moment : ℕ) → All (λ w. blanks w ≡ true) ws → All MemberFits ms → is_full ms ≡ true
    → moment < moment_end → json_read (spaced ws (object_tokens ms)) moment ≡ read_whole moment ms
json_spelled ws ms moment blank fits full below =
    read_complete (spaced ws (object_tokens ms)) moment ms (tokens_spaced ws (object_tokens ms) blank (object_spelt ms fits)) fits full below

pub json_spelling : (t : List ℕ) (moment : ℕ) → (json_read t moment).outcome ≡ Ok tt
    → (ws : List (List ℕ)) × (ms : List Member) × All (λ w. blanks w ≡ true) ws × All MemberFits ms × (is_full ms ≡ true) × (moment < moment_end)
    × (t ≡ spaced ws (object_tokens ms)) × (json_read t moment ≡ read_whole moment ms)
json_spelling t moment h =
    let read = read_members_lem t moment h in
    let plain : All Spelt (tokens t) = rw read.whole (object_spelt read.members read.fits) in
    let spelling = text_spelled t plain in (
      spelling.runs,
      read.members,
      spelling.blank_runs,
      read.fits,
      read.full,
      read.before,
      spelling.laid ∙ ap (spaced spelling.runs) read.whole,
      read.answer,
    )
