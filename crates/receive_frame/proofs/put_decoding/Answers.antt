-- The definition goes by what the held description says.
use Rattle.std.proofs.Common.{◌≡◌, ◌≤◌, Ok, List, ℕ, length, take, sym, ap, ap₂, ◌∙◌, subst, arith}
use Rattle.std.specs.Prelude.{replicate}
use lib.Seq.{length-take-le}
use Rattle.laws.proofs.Segment.{take-replicate}
use Rattle.refusal.specs.Judge.{number_of}
use Rattle.arrays.specs.Claims.{longest_bytes}
use Rattle.bits.specs.Packing.{bytes_for}
use Rattle.code.specs.declared.Code.{Code}
use Rattle.code.specs.Clauses.{Description}
use Rattle.code.specs.Description.{describe, on_description}
use Rattle.code.specs.Claims.{Coded, Described}
use Rattle.code.proofs.Facts.{described}
use Rattle.flip_trial.specs.declared.Restart.TheVariants.{AfterFlip}
use Rattle.decoder.specs.Decoder.{single, decoded_under, decoded_restarted}
use Rattle.decoder.proofs.Decoder.{under-code}
use Rattle.receive_lines.specs.Line.{no_line}
use Rattle.receive_lines.proofs.Putting.{put_as}
use Rattle.receive_frame.specs.Frame.{decoding_line}
use Rattle.receive_frame.specs.Clauses.{line_of_answer}
use Rattle.receive_frame.proofs.Room.{payload-most}
use Rattle.receive_frame.proofs.put_decoding.Goals as goal
use Rattle.receive_frame.proofs.put_decoding.Goals.{In-Ok}

-- the line under a code, and the definition by an answer of `describe`
abbrev under : List ℕ → Code → List ℕ → ℕ → List ℕ → List ℕ
under mask c channel limit output = line_of_answer (decoded_under (single limit) AfterFlip mask c channel output)

abbrev by : List ℕ → List ℕ → ℕ → Description → List ℕ
by held channel limit a =
    on_description a (λ x. no_line (number_of x)) (λ c. line_of_answer (decoded_restarted held channel limit (replicate (bytes_for c.k) 0)))

-- the code that was accepted
accepted : (c : In-Ok) → Ok c.in-Ok.code ≡ describe c.args.held.now
accepted c = sym c.in-Ok.is ∙ c.read_description.ensures

facts : (c : In-Ok) → Described c.args.held.now c.in-Ok.code
facts c = described c.args.held.now c.in-Ok.code (sym (accepted c))

-- the part of the zeros that is lent for the payload
abbrev zeros : List ℕ
zeros = replicate longest_bytes 0

module _ (c : In-Ok) (size : ℕ) (e : size ≡ bytes_for c.in-Ok.code.k) where
  fits : size ≤ longest_bytes
  fits = omega (arith, payload-most (facts c))

  part_length : length (take size zeros) ≡ size
  part_length = length-take-le size zeros fits

  part-is : take size zeros ≡ replicate (bytes_for c.in-Ok.code.k) 0
  part-is = take-replicate size longest_bytes 0 fits ∙ ap (λ (n : ℕ). replicate n 0) e

pub mask_of-mask-requires : goal.mask_of-mask-requires
mask_of-mask-requires c = (facts (goal.at.mask_of-mask-requires c).In-Ok).header

pub slice_bounds-payload-end : goal.slice_bounds-payload-end
slice_bounds-payload-end c = fits (goal.at.slice_bounds-payload-end c).In-Ok _ c.bytes_for-size.ensures

pub slice_bounds-put_decoded-end : goal.slice_bounds-put_decoded-end
slice_bounds-put_decoded-end c = sym (part_length (goal.at.slice_bounds-put_decoded-end c).In-Ok _ c.bytes_for-size.ensures)

pub put_decoded-requires : goal.put_decoded-requires
put_decoded-requires c =
    let a = (goal.at.put_decoded-requires c).In-Ok in
    let size = c.bytes_for-size.ensures in (
      subst (λ (mask : List ℕ). Coded mask c.in-Ok.code) (sym c.mask_of-mask.ensures) (facts a).coded,
      omega (arith, part_length a _ size, fits a _ size),
      c.requires,
    )

pub returns-in-Ok : goal.returns-in-Ok
unfolding decoding_line
returns-in-Ok c =
    let a = (goal.at.returns-in-Ok c).In-Ok in
    let held = c.args.held.now in
    let channel = c.args.channel.now in
    let code = c.in-Ok.code in
    put_as c.put_decoded.ensures _
    (ap₂ (λ (mask output : List ℕ). under mask code channel c.args.limit output) c.mask_of-mask.ensures (part-is a _ c.bytes_for-size.ensures)
    ∙ ap line_of_answer (sym (under-code (single c.args.limit) AfterFlip held channel (replicate (bytes_for code.k) 0) code (sym (accepted a))))
    ∙ ap (by held channel c.args.limit) (accepted a))

pub returns-in-Err : goal.returns-in-Err
unfolding decoding_line
returns-in-Err c = put_as c.put_refusal.ensures _ (ap (by c.args.held.now c.args.channel.now c.args.limit) (sym c.in-Err.is ∙ c.read_description.ensures))
