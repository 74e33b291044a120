-- One law of Steps.antt for each way of going on.
use Rattle.std.proofs.Common.{sym, ◌∙◌, arith}
use Rattle.receive_stream.proofs.Steps.{advance_whole, advance_short, advance_cut, advance_end}
use Rattle.receive_stream.proofs.Stream.advance.Goals as goal

pub returns-in-Whole : goal.returns-in-Whole
returns-in-Whole c = let a = c.args in advance_whole a.self a.got a.bytes.now a.held.now a.output.now c.requires (sym c.of.ensures.0 ∙ c.in-Whole.is) c.respond_to.ensures

pub returns-in-Short : goal.returns-in-Short
returns-in-Short c = let a = c.args in advance_short a.self a.got a.bytes.now a.held.now a.output.now c.requires (sym c.of.ensures.0 ∙ c.in-Short.is) c.cut.ensures

pub returns-in-Missing : goal.returns-in-Missing
returns-in-Missing c = let a = c.args in advance_end a.self a.got a.bytes.now a.held.now a.output.now c.requires (omega arith) c.finish.ensures

pub returns-in-Missing-2 : goal.returns-in-Missing-2
returns-in-Missing-2 c =
    let a = c.args in
    advance_cut a.self a.got a.bytes.now a.held.now a.output.now c.requires (sym c.of.ensures.0 ∙ c.in-Missing-2.is) (omega arith) (λ e. omega arith) c.cut-in-Missing-2.ensures
