use Rattle.std.proofs.Common.{◌∙◌, ap, Bool, Global}
use Rattle.std.specs.declared.io.buffered.BufWriter.{BufWriter}
use Rattle.noc_program.specs.declared.counted.Counted.{Counted}
use Rattle.std.specs.Io.Buffered.{writer_contents, writer_inner}
use Rattle.noc_commands.specs.Workers.{workers_of}
use Rattle.noc_program.specs.Counted.{counted_contents}
use Rattle.noc_program.proofs.DeviceLemmas.{told}
use Rattle.noc_program.proofs.device.write_answer_one.Goals as goal

pub returns : goal.returns
returns g c =
    let contents = g.W.Write.contents in
    let opened = c.in-Some.ensures in
    let back = c.taken_back-ended.ensures in
    told contents (λ s. writer_contents (counted_contents contents) s.0) (λ s. s.1) (workers_of c.args.request.now.command) back.taken c.args.request.now c.args.device
    c.taken_back-ended.result.1 back.left c.in-Some.out c.answer_one-answered.new.sink c.answer_one-answered.result c.taken_back-ended.result.0
    c.answer_one-answered.ensures.ends back.ends opened.shows back.bytes (λ failed same. back.still failed ∙ ap (λ (s : BufWriter (Counted g.row.W.Denot) Global × Bool). (writer_inner s.0).writer) same ∙ opened.holds)
