use Rattle.std.proofs.Common.{◌≡◌, ◌≢◌, ℕ, ◌∙◌, ◌+◌, ◌*◌, ◌<◌, true, ap, sym, subst, arith, inl, inr, bit_and}
use Rattle.std.specs.Prelude.{not, nat_eq, if◌then◌else◌}
use Rattle.std.proofs.lemmas.Bool.{and_parts, cases_eq, cases_lt, eq-eqb, false≢true, true≢false}
use Rattle.noc_packet.specs.Set.{has_bit}
use Rattle.noc_alloc.specs.Members.{MembersAreBelow}
use Rattle.noc_columns.specs.Allotted.{Allotment, HasAllotted, allotment_at}
use Rattle.noc_columns.specs.Picks.{channels_of}
use Rattle.noc_columns.specs.Wants.{asks_of}
use Rattle.noc_columns.proofs.LoopLemmas.{left-members, each-all, each-none, each-stepped}
use Rattle.noc_columns.proofs.allocation.allocate.Goals as goal

pub loop-rest-init : goal.loop-rest-init
loop-rest-init c = record {
  low = λ r e. omega (arith, c.requires.none);
  are = each-none _ _ _ _;
}

-- where a router is asked a channel waits
asks-waits : (waiting wanted idle : ℕ) → not (nat_eq (asks_of waiting wanted idle) 0) ≡ true → 0 < waiting
asks-waits waiting wanted idle e = elim (cases_eq waiting 0) [
  | inl none ↦ absurd (false≢true (sym (ap (λ b. not (nat_eq (if b then 0 else bit_and wanted idle) 0)) (eq-eqb waiting 0 none)) ∙ e))
  | inr some ↦ omega (arith, some)
]

pub allocate_router-requires : goal.allocate_router-requires
allocate_router-requires c =
    let ports = c.args.table.now.ports in
    let size = (ports.links.width + 1) * ports.links.vcs in
    let t = c.least.result in
    let within = c.least.ensures.within in
    let inv = c.loop-rest.invariant in
    let member = c.least.ensures.least.0 in
    let same = inv.are.left t member in
    let waits = ap (λ (x : Allotment). x.waiting) same in
    record {
      router_within = within;
      some = subst (λ x. 0 < x) (sym waits) (asks-waits _ _ _ (sym (c.args.marks.now.asks t within) ∙ inv.are.part t member));
      waiting = subst (MembersAreBelow size) (sym waits) (c.requires.waiting t within);
      idle = subst (MembersAreBelow size) (sym (ap (λ (x : Allotment). x.idle) same)) (c.requires.idle t within);
      free = ap (λ (x : Allotment). x.granted) same ∙ c.requires.free t within;
      room = let low = inv.low t member in omega (arith, low, within);
    }

pub loop-rest-preserved : goal.loop-rest-preserved
loop-rest-preserved c =
    let ports = c.args.table.now.ports in
    let n = channels_of ports in
    let t = c.least.result in
    let inv = c.loop-rest.invariant in
    let was = c.loop-rest in
    let got = c.allocate_router in
    let old = allotment_at n c.args.marks.now c.args.grants.now c.args.lost.now in
    record {
      low = λ r e.
          let both = and_parts (has_bit was.rest r) (not (nat_eq r t)) (sym (left-members was.rest t r c.least.ensures.least) ∙ ap (λ w. has_bit w r) (sym c.but_lowest-rest.ensures.members) ∙ e) in
          elim (cases_lt r t) [
            | inl before ↦ absurd (true≢false (sym both.0 ∙ c.least.ensures.least.1 r before))
            | inr after ↦
                let away : r ≢ t = λ same. true≢false (sym both.1 ∙ ap not (eq-eqb r t same)) in
                let had = inv.low t c.least.ensures.least.0 in
                let more = got.ensures.few in
                omega (arith, after, away, had, more)
          ];
      are = each-stepped Allotment (λ r x. HasAllotted ports.links.vcs (old r) x) old c.args.marks.now.asking (allotment_at n was.marks was.grants was.lost) (allotment_at n got.new.marks got.new.grants got.new.lost) was.rest c.but_lowest-rest.result t
          c.least.ensures.least inv.are
          (subst (λ x. HasAllotted ports.links.vcs x (allotment_at n got.new.marks got.new.grants got.new.lost t)) (inv.are.left t c.least.ensures.least.0) got.ensures.here)
          got.ensures.others c.but_lowest-rest.ensures.members;
    }

pub returns : goal.returns
returns c = record {
  asked = λ r l e. each-all Allotment _ _ _ _ c.loop-rest.rest (omega arith) c.loop-rest.invariant.are r e;
  others = λ r e. c.loop-rest.invariant.are.kept r e;
}
