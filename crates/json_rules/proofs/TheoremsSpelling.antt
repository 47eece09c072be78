-- What is proved of the spelling of JSON actions: the texts that are read are the spellings of members
-- that fit, and no others. Assumes nothing.
use Rattle.std.proofs.Common.{Ok, ℕ, ◌<◌, ◌≡◌, true, List}
use Rattle.lists.specs.Lists.{All}
use Rattle.register.specs.Limits.{moment_end}
use Rattle.json_tokens.specs.Spelling.{blanks, spaced}
use Rattle.json_rules.specs.Members.{Member}
use Rattle.json_rules.specs.Actions.{is_full, read_whole, json_read, object_tokens}
use Rattle.json_rules.specs.Fitting.{MemberFits}
use Rattle.json_rules.proofs.Spelled as spelled

-- 8a. Members that fit and are full, in any order, spelled with blanks around any token, are read.
pub json_spelled : (ws : List (List ℕ)) (ms : List Member) (moment : ℕ) → All (λ w. blanks w ≡ true) ws → All MemberFits ms → is_full ms ≡ true
    → moment < moment_end → json_read (spaced ws (object_tokens ms)) moment ≡ read_whole moment ms
json_spelled = spelled.json_spelled

-- 8b. Nothing else is: an accepted text is such a spelling, of the members that are answered.
pub json_spelling : (t : List ℕ) (moment : ℕ) → (json_read t moment).outcome ≡ Ok tt
    → (ws : List (List ℕ)) × (ms : List Member) × All (λ w. blanks w ≡ true) ws × All MemberFits ms × (is_full ms ≡ true) × (moment < moment_end)
    × (t ≡ spaced ws (object_tokens ms)) × (json_read t moment ≡ read_whole moment ms)
json_spelling = spelled.json_spelling
