use Rattle.std.proofs.Common.{rules, arith}
use Rattle.receive_stream.proofs.Output.{put_behind}
use Rattle.receive_stream.proofs.Stream.finish.Goals as goal

pub returns : goal.returns
returns c =
    let a = c.args in
    record {
      there_is = search rules;
      wanted_is = search rules;
      held_is = search rules;
      count_is = search rules;
      turns_is = search rules;
      waiting_is = search rules;
      same_size = search rules;
      ready_most = search rules;
      lines_are = put_behind a.output.now a.self.waiting _ (omega arith) c.put_end-end.ensures;
    }
