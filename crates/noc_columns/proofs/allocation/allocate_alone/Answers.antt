use Rattle.std.proofs.Common.{◌≡◌, ℕ, ◌/◌, ◌%◌, ◌^◌, ◌<◌, Bool, true, false, ◌∙◌, [], refl, ap, sym, subst, arith, bit_and, bit_or, set, slice_index, slice_index_or, get_or-set_same, get_or-set_other}
use Rattle.std.specs.Prelude.{nat_eq, if◌then◌else◌}
use Rattle.std.specs.Int.Bits.{or_zero_r}
use Rattle.std.proofs.lemmas.Bool.{and_parts, eq-eqb, ne_eqb}
use Rattle.std.proofs.lemmas.Nat.{and_le_r}
use Rattle.noc_packet.specs.Set.{has_bit}
use Rattle.noc_packet.proofs.SetLemmas.{both_members, has_bit-zero}
use Rattle.noc_sets.specs.Grants.{AreAsks}
use Rattle.noc_sets.specs.Sets.{least, less, lowest}
use Rattle.noc_sets.proofs.MemberLemmas.{lowest-one}
use Rattle.noc_columns.specs.Grants.{IsNumbered}
use Rattle.noc_columns.specs.Picks.{channels_of}
use Rattle.noc_columns.specs.Words.{set_of, word}
use Rattle.noc_columns.proofs.AllotmentLemmas.{allotted-none, allotted-one, fits-below}
use Rattle.noc_columns.proofs.AloneLemmas.{alone-least, alone-requests, asks-alone, granted-alone, past-alone}
use Rattle.noc_columns.proofs.LoopLemmas.{least-same}
use Rattle.noc_columns.proofs.TableLemmas.{less-self}
use Rattle.noc_columns.proofs.allocation.allocate_alone.Goals as goal

pub grant-requires : goal.grant-requires
grant-requires c =
    let waiting = slice_index c.args.marks.now.waiting c.args.router in
    let idle = slice_index c.args.marks.now.idle c.args.router in
    let t = c.least.result in
    let set = word t (slice_index_or c.args.marks.now.sets c.args.router []) in
    let out = c.least-else-free-eq0.result in
    let one : waiting ≡ 2 ^ t = alone-least waiting t c.requires.alone c.least.ensures.least in
    record {
      router_within = c.requires.may.router_within;
      out_within = c.requires.may.idle out (and_parts (has_bit set out) (has_bit idle out) (sym (both_members set idle out) ∙ c.least-else-free-eq0.ensures.least.0)).1;
      one = (t, c.requires.may.waiting t c.least.ensures.least.0, one);
      free = λ k e. ap (λ w. has_bit w k) c.requires.may.free ∙ has_bit-zero k;
      room = let room = c.requires.may.room in omega (arith, room);
    }

pub returns-then-free-eq0 : goal.returns-then-free-eq0
returns-then-free-eq0 c = λ lost.
    let router = c.args.router in
    let old = c.args.marks.now in
    let waiting = slice_index old.waiting router in
    let idle = slice_index old.idle router in
    let t = c.least.result in
    let sets = λ (k : ℕ). word k (slice_index_or old.sets router []) in
    let free = bit_and (sets t) idle in
    let fits : free < 2 ^ 64 = omega arith in
    let one : waiting ≡ 2 ^ t = alone-least waiting t c.requires.alone c.least.ensures.least in
    allotted-none c.args.table.now.ports router old c.put.new.self c.args.grants.now lost (alone-requests t 0) (sets t) c.requires.may
    (subst (λ f. AreAsks (has_bit waiting) idle sets (alone-requests t f) (lowest f) (if nat_eq f 0 then 0 else 2 ^ t) (sets t)) c.if-free-eq0.true (asks-alone waiting idle t free sets one refl fits))
    c.put.ensures.waiting c.put.ensures.wanted c.put.ensures.idle
    (λ r. ap (λ xs. slice_index_or xs r []) c.put.ensures.sets)
    (λ r. ap (λ xs. slice_index_or xs r []) c.put.ensures.turns)

pub returns-else-free-eq0 : goal.returns-else-free-eq0
returns-else-free-eq0 c = λ lost.
    let ports = c.args.table.now.ports in
    let router = c.args.router in
    let old = c.args.marks.now in
    let waiting = slice_index old.waiting router in
    let idle = slice_index old.idle router in
    let t = c.least.result in
    let sets = λ (k : ℕ). word k (slice_index_or old.sets router []) in
    let turn = λ (o : ℕ). word o (slice_index_or old.turns router []) in
    let free = bit_and (sets t) idle in
    let idle_fits : idle < 2 ^ 64 = fits-below _ idle c.args.table.now.few c.requires.may.idle in
    let fits : free < 2 ^ 64 = omega (arith, and_le_r (sets t) idle, idle_fits) in
    let out = c.least-else-free-eq0.result in
    let put = c.put-else-free-eq0 in
    let requests = alone-requests t free in
    let some : 0 < free = omega (arith, c.if-free-eq0.false) in
    let filled : nat_eq free 0 ≡ false = ne_eqb free 0 (λ e. absurd (omega (arith, e, some))) in
    let one : waiting ≡ 2 ^ t = alone-least waiting t c.requires.alone c.least.ensures.least in
    let its : lowest free ≡ 2 ^ out = lowest-one free out c.least-else-free-eq0.ensures.least in
    let asked : requests out ≡ 2 ^ t = ap (λ b. if b then (if nat_eq free 0 then 0 else 2 ^ t) else 0) (eq-eqb out (least free) (least-same free out some fits c.least-else-free-eq0.ensures.least)) ∙ ap (λ b. if b then 0 else 2 ^ t) filled in
    let before : slice_index_or put.new.self.turns router [] ≡ slice_index_or old.turns router [] = ap (λ xs. slice_index_or xs router []) put.ensures.turns in
    let after : slice_index_or (set put.new.self.turns router c.grant.new.turn) router [] ≡ c.grant.new.turn = get_or-set_same put.new.self.turns router c.grant.new.turn [] (omega arith) in
    let nobody : less (2 ^ t) (2 ^ t) ≡ 0 = less-self (2 ^ t) in
    allotted-one ports router old _ c.args.grants.now c.grant.new.grants lost lost requests (2 ^ out) (2 ^ t) (2 ^ t) (sets t) c.requires.may (subst (λ x. x < 2 ^ 64) its (omega arith))
    (subst (λ x. AreAsks (has_bit waiting) idle sets requests x (2 ^ t) (sets t)) its
    (subst (λ b. AreAsks (has_bit waiting) idle sets requests (lowest free) (if b then 0 else 2 ^ t) (sets t)) filled (asks-alone waiting idle t free sets one refl fits)))
    (granted-alone requests turn t out asked (channels_of ports) ports.links.vcs router c.args.grants.now c.grant.new.grants
    (subst (λ x. (r : ℕ) → IsNumbered (channels_of ports) r router x (out / ports.links.vcs) (out % ports.links.vcs) c.args.grants.now c.grant.new.grants) one c.grant.ensures.grants))
    (past-alone requests turn t out asked _
    (λ k i e l. ap (λ xs. has_bit (word out xs) i) after ∙ c.grant.ensures.turn k i (one ∙ e) l)
    (λ o other. ap (word o) after ∙ c.grant.ensures.others o other ∙ ap (word o) before))
    (λ r. put.ensures.waiting r ∙ ap (λ x. if nat_eq r router then x else slice_index old.waiting r) (sym (ap (λ x. less x (2 ^ t)) one ∙ nobody)))
    put.ensures.wanted
    (λ r. put.ensures.idle r ∙ ap (λ x. if nat_eq r router then x else slice_index old.idle r) (c.less.ensures ∙ ap (less idle) (c.lowest.ensures ∙ its)))
    (λ r. ap (λ xs. slice_index_or xs r []) put.ensures.sets)
    (λ r other. get_or-set_other put.new.self.turns router r c.grant.new.turn [] other ∙ ap (λ xs. slice_index_or xs r []) put.ensures.turns)
    (λ r. unlost (set_of (channels_of ports) r lost) (nat_eq r router) nobody)
    (omega (arith, c.grant.ensures.count))
  where
    unlost : (a : ℕ) (b : Bool) → less (2 ^ c.least.result) (2 ^ c.least.result) ≡ 0 → a ≡ (if b then bit_or a (less (2 ^ c.least.result) (2 ^ c.least.result)) else a)
    unlost a true none = sym (ap (bit_or a) none ∙ or_zero_r a)
    unlost a false none = refl
