-- No metric of a decoder by sets exceeds 32 bits.
use mathlib.Core.List.{List, Memᴰ}
use Prim.Native.Nat.{ℕ, ◌<◌, ◌^◌}
use native.Mathlib.Omega.{arith}
use Rattle.code.specs.declared.Code.{Code}
use Rattle.code.specs.Description.{mask_of}
use Rattle.code.proofs.Facts.{described}
use Rattle.channel.specs.Channel.{channel_values}
use Rattle.channel.proofs.Outside.{all-inside}
use Rattle.flip_trial.specs.declared.Restart.{Restart}
use Rattle.decoder.specs.Candidate.{Candidate}
use Rattle.decoder.specs.Decoder.{sets, WellFormed}
use Rattle.decoder.specs.Clauses.{search_of, generated_by}
use Rattle.decoder.proofs.Decoder.{spelt_out}
use Rattle.sets_tried.proofs.Small.{generated-small}

-- "A set's metric ..": in a well-formed call, whatever a trial generates has a metric below 2^32
pub metrics_fit : (restart : Restart) (w limit : ℕ) (d : List ℕ) (c : Code) (channel output : List ℕ) → WellFormed (sets w limit) d c channel output → (is : List ℕ) (x : Candidate) → Memᴰ x (generated_by (search_of restart w limit) (mask_of d) c (channel_values channel) is) → x.metric < 2 ^ 32
metrics_fit restart w limit d c channel output on is x =
    let s = (spelt_out (sets w limit) c channel output).1 on.fine in
    generated-small (mask_of d) c (channel_values channel) (all-inside channel (omega (arith, s.in_range))) (described d c on.described).coded (search_of restart w limit) s.allowed.1 is
