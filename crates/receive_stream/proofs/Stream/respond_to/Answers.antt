-- The line is put after what waits.
use Rattle.std.proofs.Common.{◌≡◌, List, ℕ, ◌++◌, take, ap, ◌∙◌, rules, arith}
use Rattle.receive_record.specs.Respond.{responded}
use Rattle.receive_record.specs.Clauses.{held_bytes}
use Rattle.receive_stream.proofs.Output.{take_behind}
use Rattle.receive_stream.proofs.Stream.respond_to.Goals as goal

pub returns : goal.returns
returns c =
    let a = c.args in
    let before = a.self.waiting in
    let r = c.respond-end.ensures in
    let ready = c.ready_of-written.ensures in
    let held : held_bytes c.respond-end.new.held ≡ (responded (take a.self.held a.held.now) a.bytes.now).1 = ap (λ (z : List ℕ × List ℕ). z.1) r.answer_is in
    record {
      there_is = search rules;
      wanted_is = search rules;
      count_is = search rules;
      turns_is = search rules;
      held_most = search rules;
      held_is = search rules;
      ready_most = search rules;
      output_room = ready.leaves (search rules);
      lines_are = ready.splits _ ∙ take_behind a.output.now _ before _ _ (omega arith) r.line_fits ∙ ap (λ (z : List ℕ × List ℕ). take before a.output.now ++ z.0) r.answer_is;
    }
