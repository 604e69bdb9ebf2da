use Rattle.std.proofs.Common.{◌≡◌, ◌+◌, ◌*◌, ◌<◌, true, refl, subst, sym, arith}
use Rattle.noc_sets.specs.Unions.{some_below}
use Rattle.noc_columns.specs.Given.{is_of}
use Rattle.noc_cycles.proofs.Common.{true≢false, channels_of, NotesSome}
use Rattle.noc_cycles.specs.Told.{NotesFirst}
use Rattle.noc_cycles.proofs.TellLemmas.{granted-given, notes-all, notes-none, notes-same}
use Rattle.noc_cycles.proofs.tells.tell.Goals as goal

pub loop-number-init : goal.loop-number-init
loop-number-init c =
    let pattern = c.args.pattern.now in
    let around = c.args.around.now in
    let block = c.args.block.now in
    let index = (channels_of pattern.table.ports).index in
    record {
      notes = λ g tells told. subst (NotesSome g pattern around block tells (λ r k. some_below 0 (is_of block.grants.given r (index k)) ≡ true)) (sym c.clear.ensures.items)
          (notes-none g pattern around block tells told (λ r k. some_below 0 (is_of block.grants.given r (index k)) ≡ true) (λ s j done. true≢false (sym done)));
      most = omega arith;
      room = omega arith;
    }

pub loop-number-preserved : goal.loop-number-preserved
loop-number-preserved c =
    let inv = c.loop-number.invariant in
    let most = inv.most in
    let more = c.tell_grant.ensures.more in
    record {
      notes = λ g tells told. c.tell_grant.ensures.notes g tells told (inv.notes g tells told);
      most = omega (arith, most, more);
      room = omega arith;
    }

pub returns-clause-notes : goal.returns-clause-notes
returns-clause-notes c = λ g tells told.
    let pattern = c.args.pattern.now in
    let around = c.args.around.now in
    let block = c.args.block.now in
    let index = (channels_of pattern.table.ports).index in
    let size = (pattern.table.ports.links.width + 1) * pattern.table.ports.links.vcs in
    let end : c.loop-number.number ≡ block.grants.count = omega arith in
    notes-all g pattern around block tells told size c.loop-number.notes.items refl
    (notes-same g pattern around block tells told (λ r j. some_below block.grants.count (is_of block.grants.given r (index j)) ≡ true) (λ r j. j < size) c.loop-number.notes.items
    (λ s j l granted below. granted-given g pattern around block tells told s j l granted) (subst (λ n. NotesFirst g pattern around block tells n c.loop-number.notes.items) end (c.loop-number.invariant.notes g tells told)))
