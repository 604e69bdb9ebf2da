use Rattle.std.proofs.Common.{◌≡◌, ◌∙◌, ℕ, Bool, List, [], ◌∷◌, ◌++◌, ◌+◌, ◌/◌, ◌%◌, codes, decimal, ap, sym, arith}
use Rattle.std.specs.Prelude.{if◌then◌else◌}
use Rattle.noc_files.specs.Ports.{name_of_port}
use Rattle.noc_files.specs.Trace.{has_below, member_text}
use Rattle.noc_files.specs.Writing.{text_of_pieces}
use Rattle.noc_files.proofs.PageLemmas.{added_more, added_none}
use Rattle.noc_files.proofs.TraceCycleLemmas.{has_none, member_more, passed_some, passed_text}
use Rattle.noc_files.proofs.sets.add_set.Goals as goal

pub loop-index-init : goal.loop-index-init
loop-index-init c =
    let g = c.args.relation.now.grid in
    let vcs = c.args.relation.now.vcs in
    let set = c.args.set in
    let first = c.next_member-index.result in
    let none = c.next_member-index.ensures.least in
    record {
      within = c.next_member-index.ensures.within.1;
      member = c.next_member-index.ensures.member;
      some = sym (passed_some g vcs set 0 first (omega arith) none ∙ has_none set);
      added = added_none (member_text g vcs set) c.args.page.now ∙ ap (λ (t : List ℕ). c.args.page.now ++ t) (sym (passed_text g vcs set 0 first (omega arith) none));
      short = omega arith;
    }

pub loop-index-preserved : goal.loop-index-preserved
loop-index-preserved c =
    let g = c.args.relation.now.grid in
    let vcs = c.args.relation.now.vcs in
    let set = c.args.set in
    let i = c.loop-index.index in
    let page = c.loop-index.page in
    let inv = c.loop-index.invariant in
    let text = member_text g vcs set in
    let name : Bool → List ℕ = λ some. text_of_pieces ((if some then codes " " else []) ∷ name_of_port g (i / vcs) ∷ codes "." ∷ decimal (i % vcs) ∷ []) in
    let next = c.next_member-index-in-loop-index.result in
    let none = c.next_member-index-in-loop-index.ensures.least in
    let order = c.next_member-index-in-loop-index.ensures.within.0 in
    let member = inv.member c.loop-index-test.true in
    let said : name (has_below set i) ≡ text i = sym (ap (λ (m : Bool). if m then name (has_below set i) else []) member) in
    let more : c.add_member.new.page ≡ page ++ text i = c.add_member.ensures.added ∙ ap (λ (some : Bool). page ++ name some) inv.some ∙ ap (λ (t : List ℕ). page ++ t) said in
    record {
      within = c.next_member-index-in-loop-index.ensures.within.1;
      member = c.next_member-index-in-loop-index.ensures.member;
      some = sym (member_more g vcs set i next member order none);
      added = added_more text c.args.page.now i page c.add_member.new.page inv.added more ∙ ap (λ (t : List ℕ). c.args.page.now ++ t) (sym (passed_text g vcs set (i + 1) next order none));
      short = omega (arith, inv.short, c.add_member.ensures.short, order);
    }
