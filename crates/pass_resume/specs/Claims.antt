-- Document 01, "Resume": the input is well-formed if nothing of 12, 13 and 17 to 19 applies. Resume accepts exactly there:
-- `well_formed_exactly` of proofs/WellFormed.antt.
use Rattle.std.specs.Prelude.{◌≡◌, List, ℕ, ◌≤◌, length}
use Rattle.code.specs.declared.Code.{Code}
use Rattle.code.specs.Code.{code_length}
use Rattle.channel.specs.Channel.{first_outside}
use Rattle.pass_resume.specs.Resume.{first_bad}

-- refusals 12, 13, 17, 18 and 19 in turn do not apply
pub record WellFormed (mask : List ℕ) (c : Code) (channel prefix output : List ℕ) : Type 0 where
  pub channel_size : length channel ≡ code_length c
  pub in_range : first_outside channel ≡ length channel
  pub prefix_size : length prefix ≤ code_length c
  pub prefix_good : first_bad mask prefix ≡ length prefix
  pub output_size : length output ≡ code_length c
