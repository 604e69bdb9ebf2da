use Rattle.std.proofs.Common.{◌≡◌, ◌⊎◌, ℕ, ◌^◌, ◌<◌, ◌∙◌, true, false, [], ap, sym, subst, arith, inl, inr, bit_or, slice_index, slice_index_or, get_or-set_same, get_or-set_other}
use Rattle.std.specs.Prelude.{not, nat_eq, if◌then◌else◌}
use Rattle.std.proofs.lemmas.Bool.{and_parts, cases_Bool}
use Rattle.noc_packet.specs.Set.{has_bit}
use Rattle.noc_packet.proofs.SetLemmas.{has_bit-zero}
use Rattle.noc_sets.specs.Grants.{AreAsks}
use Rattle.noc_sets.specs.Sets.{least}
use Rattle.noc_sets.proofs.MemberLemmas.{least_is, less_members}
use Rattle.noc_columns.specs.Grants.{ArePointersPast}
use Rattle.noc_columns.specs.Picks.{channels_of}
use Rattle.noc_columns.specs.Words.{set_of, word}
use Rattle.noc_columns.proofs.AloneLemmas.{alone-is}
use Rattle.noc_columns.proofs.AllotmentLemmas.{allotted-none, allotted-one, entry-kept, fits-below}
use Rattle.noc_columns.proofs.AskLemmas.{asked-none, asked-some, asks-apart, asks-idle, asks-nothing, asks-wait, in-word}
use Rattle.noc_columns.proofs.allocation.allocate_router.Goals as goal

pub allocate_alone-requires-clause-alone : goal.allocate_alone-requires-clause-alone
allocate_alone-requires-clause-alone c =
    let waiting = slice_index c.args.marks.now.waiting c.args.router in
    let fits : waiting < 2 ^ 64 = fits-below _ waiting c.args.table.now.few c.requires.waiting in
    (least waiting, alone-is waiting (least waiting) (least_is waiting c.requires.some fits) (sym c.but_lowest.ensures.members ∙ c.if-but_lowest-eq0.true))

pub invariant_of-marks-clause-unasked : goal.invariant_of-marks-clause-unasked
invariant_of-marks-clause-unasked c = λ o l.
    let are = c.ask_all-asks.ensures in
    asked-none (slice_index c.ask_all-asks.new.requests o) (sym (are.asked_for o l) ∙ ap (λ w. has_bit w o) c.if-asks-eq0.true ∙ has_bit-zero o)

pub returns-then-asks-eq0 : goal.returns-then-asks-eq0
returns-then-asks-eq0 c =
    let router = c.args.router in
    let old = c.args.marks.now in
    let waiting = slice_index old.waiting router in
    let idle = slice_index old.idle router in
    let requests = λ (o : ℕ). slice_index c.ask_all-asks.new.requests o in
    let sets = λ (k : ℕ). word k (slice_index_or old.sets router []) in
    let asks = c.ask_all-asks.result in
    let are = c.ask_all-asks.ensures in
    let idle_fits : idle < 2 ^ 64 = fits-below _ idle c.args.table.now.few c.requires.idle in
    let nobody = asks-nothing (has_bit waiting) idle sets requests asks.outs asks.inputs asks.wanted are c.if-asks-eq0.true idle_fits in
    allotted-none c.args.table.now.ports router old c.put.new.self c.args.grants.now c.args.lost.now requests asks.wanted c.requires
    (subst (λ x. AreAsks (has_bit waiting) idle sets requests 0 x asks.wanted) nobody
    (subst (λ x. AreAsks (has_bit waiting) idle sets requests x asks.inputs asks.wanted) c.if-asks-eq0.true are))
    c.put.ensures.waiting c.put.ensures.wanted c.put.ensures.idle
    (λ r. ap (λ xs. slice_index_or xs r []) c.put.ensures.sets ∙ entry-kept old.sets router r (omega arith))
    (λ r. ap (λ xs. slice_index_or xs r []) c.put.ensures.turns)

pub grant_all-granted-requires : goal.grant_all-granted-requires
grant_all-granted-requires c =
    let are = c.ask_all-asks.ensures in
    let fits : c.ask_all-asks.result.outs < 2 ^ 64 = omega arith in
    let idle = slice_index c.args.marks.now.idle c.args.router in
    let idle_fits : idle < 2 ^ 64 = fits-below _ idle c.args.table.now.few c.requires.idle in
    record {
      router_within = c.requires.router_within;
      asked = λ o a.
          let l = in-word c.ask_all-asks.result.outs o fits a in (
            c.requires.idle o (asks-idle _ idle _ _ _ _ _ are fits idle_fits o a),
            asked-some (slice_index c.ask_all-asks.new.requests o) (sym (are.asked_for o l) ∙ a),
            λ k e. c.requires.waiting k (asks-wait _ idle _ _ _ _ _ are o k l e),
          );
      apart = λ a b k ea eb x y. asks-apart _ idle _ _ _ _ _ are a b k (in-word c.ask_all-asks.result.outs a fits ea) (in-word c.ask_all-asks.result.outs b fits eb) x y;
      free = λ o k a b. ap (λ w. has_bit w k) c.requires.free ∙ has_bit-zero k;
      room = c.requires.room;
    }

pub put-requires-else-asks-eq0-clause-below : goal.put-requires-else-asks-eq0-clause-below
put-requires-else-asks-eq0-clause-below c = λ k e.
    let are = c.ask_all-asks.ensures in
    let inputs = c.ask_all-asks.result.inputs in
    let granted = c.grant_all-granted.result in
    let asks : has_bit inputs k ≡ true = (and_parts (has_bit inputs k) (not (has_bit granted k)) (sym (less_members inputs granted k) ∙ ap (λ w. has_bit w k) (sym c.less.ensures) ∙ e)).0 in
    c.requires.waiting k (and_parts (has_bit (slice_index c.args.marks.now.waiting c.args.router) k) _ (sym (are.asking k) ∙ asks)).0

pub returns-else-asks-eq0 : goal.returns-else-asks-eq0
returns-else-asks-eq0 c =
    let router = c.args.router in
    let old = c.args.marks.now in
    let new = c.put-else-asks-eq0-2 in
    let requests = λ (o : ℕ). slice_index c.ask_all-asks.new.requests o in
    let asks = c.ask_all-asks.result in
    let got = c.grant_all-granted in
    let turn = λ (o : ℕ). word o (slice_index_or old.turns router []) in
    let at_router : slice_index_or new.new.self.turns router [] ≡ got.new.turn = ap (λ xs. slice_index_or xs router []) new.ensures.turns ∙ get_or-set_same old.turns router got.new.turn [] (omega arith) in
    let past : ArePointersPast (has_bit asks.outs) requests turn (λ o. slice_index got.new.turn o) = got.ensures.turns in
    allotted-one c.args.table.now.ports router old new.new.self c.args.grants.now got.new.grants c.args.lost.now c.put-else-asks-eq0.new.words requests asks.outs asks.inputs got.result asks.wanted c.requires (omega arith)
    c.ask_all-asks.ensures got.ensures.granted
    (record {
      past = λ o k i a b l. ap (λ xs. has_bit (word o xs) i) at_router ∙ past.past o k i a b l;
      others = λ o e. ap (word o) at_router ∙ past.others o e;
    })
    (λ r. new.ensures.waiting r ∙ ap (λ x. if nat_eq r router then x else slice_index old.waiting r) c.less-else-asks-eq0.ensures)
    new.ensures.wanted
    (λ r. new.ensures.idle r ∙ ap (λ x. if nat_eq r router then x else slice_index old.idle r) c.less-else-asks-eq0-2.ensures)
    (λ r. ap (λ xs. slice_index_or xs r []) new.ensures.sets ∙ entry-kept old.sets router r (omega arith))
    (λ r other. ap (λ xs. slice_index_or xs r []) new.ensures.turns ∙ get_or-set_other old.turns router r got.new.turn [] other)
    (λ r. c.put-else-asks-eq0.ensures r ∙ ap (λ x. if nat_eq r router then bit_or (set_of (channels_of c.args.table.now.ports) r c.args.lost.now) x else set_of (channels_of c.args.table.now.ports) r c.args.lost.now) c.less.ensures)
    got.ensures.few

pub invariant_of-marks-else-asks-eq0-clause-unasked : goal.invariant_of-marks-else-asks-eq0-clause-unasked
invariant_of-marks-else-asks-eq0-clause-unasked c = λ o l. at o l (cases_Bool (has_bit c.ask_all-asks.result.outs o))
  where
    at : (o : ℕ) → o < 64 → (has_bit c.ask_all-asks.result.outs o ≡ true) ⊎ (has_bit c.ask_all-asks.result.outs o ≡ false) → slice_index c.grant_all-granted.new.requests o ≡ 0
    at o l (inl asked) = c.grant_all-granted.ensures.answered o asked
    at o l (inr free) = c.grant_all-granted.ensures.unasked o free ∙ asked-none (slice_index c.ask_all-asks.new.requests o) (sym (c.ask_all-asks.ensures.asked_for o l) ∙ free)
