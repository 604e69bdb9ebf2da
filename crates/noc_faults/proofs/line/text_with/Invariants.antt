use Rattle.std.proofs.Common.{◌≡◌, ◌+◌, ◌*◌, ◌≤◌, ◌++◌, length, take, flat_map}
use Rattle.noc_faults.specs.Line.{detail_text}
use Rattle.noc_faults.proofs.line.text_with.Given as goal

-- the details so far stand in the text
abbrev pub invariant-loop-detail : goal.invariant-loop-detail
invariant-loop-detail l = record {
  text : l.text.bytes ≡ l.initial.text.bytes ++ flat_map detail_text (take l.detail-index l.details);
  short : length l.text.bytes ≤ 47 + 40 * l.detail-index;
}
