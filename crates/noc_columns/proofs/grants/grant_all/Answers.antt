use Rattle.std.proofs.Common.{◌≡◌, ◌≢◌, ℕ, ◌+◌, ◌*◌, ◌^◌, ◌<◌, Bool, true, false, ◌∙◌, ap, ap₂, sym, subst, arith, refl, inl, inr, bit_or, set, slice_index, get_or-set_same, get_or-set_other}
use Rattle.std.specs.Prelude.{◌&&◌, ◌||◌, not, nat_eq, if◌then◌else◌}
use Rattle.std.proofs.lemmas.Bool.{and_parts, cases_Bool, cases_lt, eq-eqb, eqb-true, true≢false}
use Rattle.std.proofs.lemmas.List.{length-set}
use Rattle.noc_packet.specs.Set.{has_bit}
use Rattle.noc_packet.proofs.SetLemmas.{either_members}
use Rattle.noc_alloc.specs.Members.{MembersAreBelow}
use Rattle.noc_sets.specs.Turns.{first_bit, in_turn}
use Rattle.noc_sets.proofs.MemberLemmas.{lowest-one, or-cases, or-none}
use Rattle.noc_sets.proofs.TurnLemmas.{first-among}
use Rattle.noc_columns.specs.Grants.{first_of}
use Rattle.noc_columns.specs.Picks.{channels_of}
use Rattle.noc_columns.specs.Words.{set_of}
use Rattle.noc_columns.proofs.GrantLemmas.{first-is, granted-next, granted-none, granted-same}
use Rattle.noc_columns.proofs.LoopLemmas.{all-done, left-members, left-part, none-left, not-done, not-left}
use Rattle.noc_columns.proofs.PortLemmas.{lowest-least}
use Rattle.noc_columns.proofs.grants.grant_all.Goals as goal

pub loop-rest-init : goal.loop-rest-init
loop-rest-init c = record {
  size = omega arith;
  part = λ k e. e;
  granted = granted-none _ _ _ _ _ _ _ (λ o. none-left c.args.outs o);
  few = λ o e. omega arith;
  most = omega arith;
  left = λ o e. refl;
  turned = λ o k i a b l. absurd (true≢false (sym a ∙ none-left c.args.outs o));
  answered = λ o a. absurd (true≢false (sym a ∙ none-left c.args.outs o));
  unread = λ o e. refl;
}

pub first_in_turn-input-requires : goal.first_in_turn-input-requires
first_in_turn-input-requires c =
    let inv = c.loop-rest.invariant in
    let t = c.least-out.result in
    let asked = c.requires.asked t (inv.part t c.least-out.ensures.least.0) in
    let was : slice_index c.loop-rest.requests t ≡ slice_index c.args.requests.now t = inv.unread t (not-done c.args.outs c.loop-rest.rest t c.least-out.ensures.least.0) in
    subst (λ x. 0 < x) (sym was) asked.1

pub grant-requires : goal.grant-requires
grant-requires c =
    let ports = c.args.table.now.ports in
    let size = (ports.links.width + 1) * ports.links.vcs in
    let inv = c.loop-rest.invariant in
    let t = c.least-out.result in
    let asked = c.requires.asked t (inv.part t c.least-out.ensures.least.0) in
    let asks = slice_index c.loop-rest.requests t in
    let turn = slice_index c.loop-rest.turn t in
    let was : asks ≡ slice_index c.args.requests.now t = inv.unread t (not-done c.args.outs c.loop-rest.rest t c.least-out.ensures.least.0) in
    record {
      router_within = c.requires.router_within;
      out_within = asked.0;
      one = first-is size asks turn c.first_in_turn-input.result (subst (MembersAreBelow size) (sym was) asked.2) (subst (λ x. 0 < x) (sym was) asked.1) c.first_in_turn-input.ensures;
      free = λ k e. ungranted k (ap (λ w. has_bit w k) (sym was) ∙ first-among asks turn k (ap (λ w. has_bit w k) (sym c.first_in_turn-input.ensures) ∙ e));
      room = let few = inv.few t c.least-out.ensures.least.0 in let within = c.least-out.ensures.within in let room = c.requires.room in omega (arith, few, within, room);
    }
  where
    -- who asks for the channel is granted no other one
    ungranted : (k : ℕ) → has_bit (slice_index c.args.requests.now c.least-out.result) k ≡ true → has_bit (set_of (channels_of c.args.table.now.ports) c.args.router c.loop-rest.grants.granted) k ≡ false
    ungranted k asks =
        let inv = c.loop-rest.invariant in
        let n = channels_of c.args.table.now.ports in
        let router = c.args.router in
        let t = c.least-out.result in
        let least = c.least-out.ensures.least in
        let outs = c.args.outs in
        let rest = c.loop-rest.rest in
        let old = set_of n router c.args.grants.now.granted in
        let whole = inv.part t least.0 in
        ap (λ w. has_bit w k) (inv.granted.bits router ∙ ap (λ b. if b then bit_or old c.loop-rest.granted else old) (eq-eqb router router refl))
        ∙ either_members old c.loop-rest.granted k
        ∙ ap₂ (λ a b. a || b) (c.requires.free t k whole asks)
        (inv.granted.none k (λ o p. elim (cases_Bool (has_bit (first_of (λ x. slice_index c.args.requests.now x) (λ x. slice_index c.args.turn.now x) o) k)) [
          | inl b ↦
              let parts = and_parts (has_bit outs o) (not (has_bit rest o)) p in
              let same = c.requires.apart o t k parts.0 whole (first-among (slice_index c.args.requests.now o) (slice_index c.args.turn.now o) k b) asks in
              absurd (true≢false (sym parts.1 ∙ ap (λ x. not (has_bit rest x)) same ∙ ap not least.0))
          | inr b ↦ b
        ]))

pub loop-rest-preserved : goal.loop-rest-preserved
loop-rest-preserved c =
    let inv = c.loop-rest.invariant in
    let ports = c.args.table.now.ports in
    let outs = c.args.outs in
    let rest = c.loop-rest.rest in
    let t = c.least-out.result in
    let least = c.least-out.ensures.least in
    let requests = λ (o : ℕ). slice_index c.args.requests.now o in
    let turn = λ (o : ℕ). slice_index c.args.turn.now o in
    let bit = c.first_in_turn-input.result in
    let prev = λ (o : ℕ). has_bit outs o && not (has_bit rest o) in
    let fresh = inv.left t (not-done outs rest t least.0) in
    let was = inv.unread t (not-done outs rest t least.0) in
    let is : bit ≡ first_of requests turn t = c.first_in_turn-input.ensures ∙ ap₂ first_bit was fresh in
    let next = λ (o : ℕ). has_bit outs o && not (has_bit c.but_lowest-rest.result o) in
    let more : (k : ℕ) → next k ≡ (prev k || nat_eq k t) = λ k. ap (λ w. has_bit outs k && not (has_bit w k)) c.but_lowest-rest.ensures.members ∙ not-left outs rest t k least inv.part in
    let other : (o : ℕ) → prev o ≡ true → o ≢ t = λ o p e. true≢false (sym p ∙ ap prev e ∙ not-done outs rest t least.0) in
    let few : t < 64 = c.least-out.ensures.within in
    record {
      size = length-set c.loop-rest.requests t 0 ∙ inv.size;
      part = λ k e. left-part outs rest t least inv.part k (ap (λ w. has_bit w k) (sym c.but_lowest-rest.ensures.members) ∙ e);
      granted = granted-next (channels_of ports) ports.links.vcs c.args.router prev next requests turn c.loop-rest.granted t bit c.args.grants.now c.loop-rest.grants c.grant.new.grants more is
          (λ o k p b. free o k p b (has_bit bit k) refl)
          c.grant.ensures.grants inv.granted;
      few = λ o e.
          let both = and_parts (has_bit rest o) (not (nat_eq o t)) (sym (left-members rest t o least) ∙ ap (λ w. has_bit w o) (sym c.but_lowest-rest.ensures.members) ∙ e) in
          elim (cases_lt o t) [
            | inl before ↦ absurd (true≢false (sym both.0 ∙ least.1 o before))
            | inr after ↦
                let away : o ≢ t = λ same. true≢false (sym both.1 ∙ ap not (eq-eqb o t same)) in
                let had = inv.few t least.0 in
                let more = c.grant.ensures.count in
                omega (arith, after, away, had, more)
          ];
      most = let had = inv.few t least.0 in let more = c.grant.ensures.count in omega (arith, had, more, few);
      left = λ o e.
          let both = or-none (prev o) (nat_eq o t) (sym (more o) ∙ e) in
          let far : o ≢ t = λ same. true≢false (sym (eq-eqb o t same) ∙ both.1) in
          c.grant.ensures.others o far ∙ inv.left o both.0;
      turned = λ o k i a b l. elim (or-cases (prev o) (nat_eq o t) (sym (more o) ∙ a)) [
        | inl p ↦ ap (λ w. has_bit w i) (c.grant.ensures.others o (other o p)) ∙ inv.turned o k i p b l
        | inr e ↦
            let same = eqb-true o t e in
            let power : bit ≡ 2 ^ k = is ∙ ap (first_of requests turn) (sym same) ∙ lowest-one (in_turn (requests o) (turn o)) k (lowest-least (in_turn (requests o) (turn o)) k b) in
            ap (λ x. has_bit (slice_index c.grant.new.turn x) i) same ∙ c.grant.ensures.turn k i power l
      ];
      answered = λ o a. elim (or-cases (prev o) (nat_eq o t) (sym (more o) ∙ a)) [
        | inl p ↦ get_or-set_other c.loop-rest.requests t o 0 0 (other o p) ∙ inv.answered o p
        | inr e ↦ ap (slice_index (set c.loop-rest.requests t 0)) (eqb-true o t e) ∙ get_or-set_same c.loop-rest.requests t 0 0 (omega (arith, inv.size, few))
      ];
      unread = λ o e.
          let both = or-none (prev o) (nat_eq o t) (sym (more o) ∙ e) in
          let far : o ≢ t = λ same. true≢false (sym (eq-eqb o t same) ∙ both.1) in
          get_or-set_other c.loop-rest.requests t o 0 0 far ∙ inv.unread o both.0;
    }
  where
    free : (o k : ℕ) → (has_bit c.args.outs o && not (has_bit c.loop-rest.rest o)) ≡ true → has_bit (first_of (λ x. slice_index c.args.requests.now x) (λ x. slice_index c.args.turn.now x) o) k ≡ true
        → (b : Bool) → has_bit c.first_in_turn-input.result k ≡ b → has_bit c.first_in_turn-input.result k ≡ false
    free o k p b false e = e
    free o k p b true e =
        let t = c.least-out.result in
        let least = c.least-out.ensures.least in
        let parts = and_parts (has_bit c.args.outs o) (not (has_bit c.loop-rest.rest o)) p in
        let a = first-among (slice_index c.args.requests.now o) (slice_index c.args.turn.now o) k b in
        let was = c.loop-rest.invariant.unread t (not-done c.args.outs c.loop-rest.rest t least.0) in
        let d = first-among (slice_index c.loop-rest.requests t) (slice_index c.loop-rest.turn t) k (ap (λ w. has_bit w k) (sym c.first_in_turn-input.ensures) ∙ e) in
        let same = c.requires.apart o t k parts.0 (c.loop-rest.invariant.part t least.0) a (ap (λ w. has_bit w k) (sym was) ∙ d) in
        absurd (true≢false (sym parts.1 ∙ ap (λ x. not (has_bit c.loop-rest.rest x)) same ∙ ap not least.0))

pub returns : goal.returns
returns c =
    let done = λ (o : ℕ). all-done c.args.outs c.loop-rest.rest o (omega arith) in
    let inv = c.loop-rest.invariant in
    record {
      granted = granted-same _ _ _ _ _ _ _ _ _ _ (λ o. sym (done o)) inv.granted;
      turns = record {
        past = λ o k i a b l. inv.turned o k i (done o ∙ a) b l;
        others = λ o e. inv.left o (done o ∙ e);
      };
      answered = λ o a. inv.answered o (done o ∙ a);
      unasked = λ o e. inv.unread o (done o ∙ e);
      few = inv.most;
    }
