-- One grant more.
use Rattle.std.proofs.Common.{◌≡◌, ◌≢◌, ℕ, ◌+◌, ◌<◌, true, false, List, length, arith, ap, ap₂, sym, subst, ◌∙◌, refl, inl, inr, set, get_or-set_same, get_or-set_other}
use Rattle.std.specs.Prelude.{◌&&◌, ◌||◌, nat_eq, slice_index_or, if◌then◌else◌}
use Rattle.std.proofs.lemmas.Bool.{and_parts, cases_Bool, cases_eq, eq-eqb, eqb-true, true≢false}
use Rattle.noc_packet.specs.Set.{has_bit}
use Rattle.noc_sets.proofs.MemberLemmas.{or-cases, or-left, or-right}
use Rattle.noc_columns.specs.Given.{AreAllGiven, AreGiven, IsGiven, is_of}
use Rattle.noc_columns.specs.Supply.{digits_by, number_in}
use Rattle.noc_columns.specs.Words.{word}
use Rattle.noc_sets.specs.Unions.{some_below}
use Rattle.noc_columns.specs.declared.given.Grant.{Grant}
use Rattle.noc_columns.specs.declared.supply.Sends.{Sends}
use Rattle.noc_columns.proofs.PassLemmas.{some-next, some-same}

module _ (given : List Grant) (count : ℕ) (granted new : List ℕ) (sends now : Sends (List ℕ)) (e : Grant) (few : count < length given)
    (right : AreGiven given count granted sends) (all : AreAllGiven given count granted)
    (put : (k r : ℕ) → has_bit (word k new) r ≡ ((nat_eq k e.index && nat_eq r e.router) || has_bit (word k granted) r))
    (port : (k r : ℕ) → number_in (digits_by (word k) now.port) r ≡ (if nat_eq k e.index && nat_eq r e.router then e.port else number_in (digits_by (word k) sends.port) r))
    (vc : (k r : ℕ) → number_in (digits_by (word k) now.vc) r ≡ (if nat_eq k e.index && nat_eq r e.router then e.vc else number_in (digits_by (word k) sends.vc) r))
    (free : has_bit (word e.index granted) e.router ≡ false) (router : e.router < 64) (index : e.index < 64) where
  abbrev none : Grant
  none = record { router = 0; index = 0; port = 0; vc = 0 }

  abbrev later : List Grant
  later = set given count e

  here : (nat_eq e.index e.index && nat_eq e.router e.router) ≡ true
  here = ap₂ (λ a b. a && b) (eq-eqb e.index e.index refl) (eq-eqb e.router e.router refl)

  its : IsGiven e new now
  its = record {
    router = router;
    index = index;
    granted_is = put e.index e.router ∙ ap (λ b. b || has_bit (word e.index granted) e.router) here;
    port = port e.index e.router ∙ ap (λ b. if b then e.port else number_in (digits_by (word e.index) sends.port) e.router) here;
    vc = vc e.index e.router ∙ ap (λ b. if b then e.vc else number_in (digits_by (word e.index) sends.vc) e.router) here;
  }

  -- the others are to other channels
  module _ (x : Grant) (was : IsGiven x granted sends) where
    other : (nat_eq x.index e.index && nat_eq x.router e.router) ≡ false
    other = elim (cases_Bool (nat_eq x.index e.index && nat_eq x.router e.router)) [
      | inl same ↦
          let both = and_parts (nat_eq x.index e.index) (nat_eq x.router e.router) same in
          absurd (true≢false (sym was.granted_is ∙ ap₂ (λ k r. has_bit (word k granted) r) (eqb-true x.index e.index both.0) (eqb-true x.router e.router both.1) ∙ free))
      | inr apart ↦ apart
    ]

    still : IsGiven x new now
    still = record {
      router = was.router;
      index = was.index;
      granted_is = put x.index x.router ∙ ap (λ b. (nat_eq x.index e.index && nat_eq x.router e.router) || b) was.granted_is ∙ or-right (nat_eq x.index e.index && nat_eq x.router e.router) true refl;
      port = port x.index x.router ∙ ap (λ b. if b then e.port else number_in (digits_by (word x.index) sends.port) x.router) other ∙ was.port;
      vc = vc x.index x.router ∙ ap (λ b. if b then e.vc else number_in (digits_by (word x.index) sends.vc) x.router) other ∙ was.vc;
    }

  stays : (i : ℕ) (d : Grant) → i ≢ count → slice_index_or later i d ≡ slice_index_or given i d
  stays i d away = get_or-set_other given count i e d away

  last : (d : Grant) → slice_index_or later count d ≡ e
  last d = get_or-set_same given count e d few

  pub grants-put : AreGiven later (count + 1) new now
  grants-put i d l = elim (cases_eq i count) [
    | inl same ↦ subst (λ (x : Grant). IsGiven x new now) (sym (ap (λ j. slice_index_or later j d) same ∙ last d)) its
    | inr away ↦ subst (λ (x : Grant). IsGiven x new now) (sym (stays i d away)) (still (slice_index_or given i d) (right i d (omega (arith, l, away))))
  ]

  -- those before are as they were
  before : (r k : ℕ) → some_below count (is_of given r k) ≡ some_below count (is_of later r k)
  before r k = some-same count (is_of given r k) (is_of later r k) (λ i l.
      let away : i ≢ count = λ same. (let below = l in omega (arith, below, same)) in
      ap (λ (x : Grant). nat_eq x.router r && nat_eq x.index k) (sym (stays i none away)))

  pub all-put : AreAllGiven later (count + 1) new
  all-put r k low l is = some-next count (is_of later r k) ∙ elim (or-cases (nat_eq k e.index && nat_eq r e.router) (has_bit (word k granted) r) (sym (put k r) ∙ is)) [
    | inl same ↦
        let both = and_parts (nat_eq k e.index) (nat_eq r e.router) same in
        or-right (some_below count (is_of later r k)) (is_of later r k count)
        (ap (λ (x : Grant). nat_eq x.router r && nat_eq x.index k) (last none) ∙ ap₂ (λ a b. a && b) (eq-eqb e.router r (sym (eqb-true r e.router both.1))) (eq-eqb e.index k (sym (eqb-true k e.index both.0))))
    | inr was ↦ or-left (some_below count (is_of later r k)) (is_of later r k count) (sym (before r k) ∙ all r k low l was)
  ]
