-- `cut` is put after what waits, and `end` after both.
use Rattle.std.proofs.Common.{List, ℕ, ◌++◌, take, append_assoc, ap, ◌∙◌, rules, arith}
use Rattle.receive_lines.specs.Line.{cut_line, end_line}
use Rattle.receive_stream.proofs.Output.{put_behind}
use Rattle.receive_stream.proofs.Stream.cut.Goals as goal

pub returns : goal.returns
returns c =
    let a = c.args in
    let end = c.finish.ensures in
    let text = end_line a.self.count in
    record {
      there_is = end.there_is;
      wanted_is = end.wanted_is;
      held_is = end.held_is;
      count_is = end.count_is;
      turns_is = end.turns_is;
      waiting_is = end.waiting_is;
      same_size = search rules;
      ready_most = end.ready_most;
      lines_are = end.lines_are
          ∙ ap (λ (x : List ℕ). x ++ text) (put_behind a.output.now a.self.waiting _ (omega arith) c.put_cut-end.ensures)
          ∙ append_assoc (take a.self.waiting a.output.now) cut_line text;
    }
