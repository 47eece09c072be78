-- The empty register written: its text has 41 bytes, which a buffer of 41 takes and one of 40 does not. And a register that is not
-- sound, before a buffer that is too short: 1 comes first. Computed. Assumes nothing.
use Rattle.std.proofs.Common.{Ok, ◌≡◌, refl, [], replicate, drop}
use Rattle.lists.specs.Lists.{splice, distinct}
use Rattle.register.specs.Register.{empty_register}
use Rattle.register.specs.declared.Register.{Register}
use Rattle.soundness_rules.specs.Sound.{sound_actors, sound_resources, sound_claims, within_limits, sound}
use Rattle.refusals.specs.declared.Refusal.TheVariants.{Unsound, Buffer}
use Rattle.decimals.specs.Decimals.{digits, digits_with}
use Rattle.lines.specs.Lines.{decimal_line}
use Rattle.text_rules.specs.Records.{texts}
use Rattle.text_rules.specs.Registers.{register_text}
use Rattle.register_writing.specs.Writing.{register_written, register_buffer}
use Rattle.buffers.specs.Delivery.{unwritten, delivered}

empty_written : register_written empty_register (replicate 41 0) ≡ record { outcome = Ok tt; length = 41 }
unfolding register_written delivered sound within_limits sound_actors sound_resources sound_claims distinct empty_register register_text decimal_line digits digits_with texts
empty_written = refl

empty_short : register_written empty_register (replicate 40 0) ≡ unwritten Buffer
unfolding register_written delivered sound within_limits sound_actors sound_resources sound_claims distinct empty_register register_text decimal_line digits digits_with texts
empty_short = refl

-- behind the text the buffer keeps its bytes
empty_kept : drop 41 (register_buffer empty_register (replicate 43 7)) ≡ replicate 2 7
unfolding register_buffer splice sound within_limits sound_actors sound_resources sound_claims distinct empty_register register_text decimal_line digits digits_with texts
empty_kept = refl

-- 65 actors
abbrev crowded : Register
crowded = record { actors = record { list = []; count = 65 }; resources = record { list = []; count = 0 }; claims = record { list = []; count = 0 }; version = 1 }

crowded_unsound : register_written crowded [] ≡ unwritten Unsound
unfolding register_written sound within_limits
crowded_unsound = refl

crowded_kept : register_buffer crowded (replicate 3 7) ≡ replicate 3 7
unfolding register_buffer sound within_limits
crowded_kept = refl
