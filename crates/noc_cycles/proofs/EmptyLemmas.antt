-- A router that holds nothing shows an empty one.
use Rattle.std.proofs.Common.{◌≡◌, ℕ, ◌+◌, ◌*◌, ◌/◌, ◌^◌, ◌<◌, Bool, true, false, refl, ap, ap₂, sym, ◌∙◌, subst, arith, length}
use Rattle.std.specs.Prelude.{◌&&◌}
use Rattle.std.proofs.lemmas.Bool.{false≢true, ltb-true}
use Rattle.noc_topo.specs.Lists.{one_if}
use Rattle.noc_sets.specs.Column.{AreWords, Column}
use Rattle.noc_sets.specs.Opening.{AreEmptyMarks, IsEmptyColumn}
use Rattle.noc_sets.specs.Planes.{ArePlanes, plane_number}
use Rattle.noc_sets.proofs.MemberLemmas.{ones-members}
use Rattle.noc_cycles.proofs.Common.{lt-ltb, has_bit, has_bit-zero, Layout, up_by, channels_of, links_of, list_of, planes_by, all_of, set_alike, set_below, Inputs, Outputs, Planes, port-below, below-members, Held, FitsLayout, Pattern}
use Rattle.noc_cycles.specs.Held.{ShowsHeld}
use Rattle.noc_cycles.specs.Opened.{HoldsNothing, free_outputs, no_inputs, no_links, router_of}
use Rattle.noc_cycles.specs.Taking.{links_count}
use Rattle.noc_cycles.specs.declared.first.First.{First}
use Rattle.noc_cycles.proofs.LayoutLemmas.{alike-fit, alike-number, all-members, below-whole, channels-parts, few-channels, few-links, list-many, size_in}

nobody : (set k : ℕ) → set ≡ 0 → has_bit set k ≡ true → {A : Type 0} → A
nobody set k none is {A} = absurd (false≢true (sym (ap (λ s. has_bit s k) none ∙ has_bit-zero k) ∙ is))

-- ---- no flits
none-number : (deep : Bool) (x : ℕ) → plane_number (list_of deep (no_inputs 0).len) x ≡ 0
none-number true x = ap (λ b. one_if b + 2 * (one_if b + 2 * (one_if b + 2 * (one_if b + 2 * (one_if b + 2 * 0))))) (has_bit-zero x)
none-number false x = ap (λ b. one_if b + 2 * (one_if b + 2 * (one_if b + 2 * 0))) (has_bit-zero x)

none-fit : (deep : Bool) → ArePlanes (list_of deep (no_inputs 0).len)
none-fit true = (omega arith, (omega arith, (omega arith, (omega arith, (omega arith, tt)))))
none-fit false = (omega arith, (omega arith, (omega arith, tt)))

module _ (pattern : Pattern) (one : First) (r : ℕ) (h : Held) (is : HoldsNothing pattern one r h) where
  none-active : h.inputs.active ≡ 0
  none-active = ap (λ (i : Inputs ℕ). i.active) is.inputs

  pub holds-shown : ShowsHeld pattern h no_links (router_of pattern h)
  holds-shown = record {
    column = refl;
    marks = record {
      set = refl;
      turn = refl;
      packet = refl;
      owned = record {
        sends = record {
          port = λ i e. nobody h.inputs.active i none-active e;
          vc = λ i e. nobody h.inputs.active i none-active e;
          taken = λ i e. nobody h.inputs.active i none-active e;
          to_port = λ i q e l. nobody h.inputs.active i none-active e;
        };
        only = λ q i e. nobody 0 i refl e;
        owner = λ i e. nobody h.inputs.active i none-active e;
      };
      outputs = λ q l. refl;
    };
    waiting = is.waiting ∙ sym (ap (λ (i : Inputs ℕ). i.waiting) is.inputs);
    ended = refl;
    links_are = refl;
    source = refl;
  }

  -- ---- its column
  abbrev the_column : Inputs ℕ → Outputs ℕ → ℕ → ℕ → ℕ → Column
  the_column inputs outputs wanted idle injecting = record {
    waiting = inputs.waiting;
    active = inputs.active;
    len = list_of pattern.frame.deep inputs.len;
    supplied = 0;
    ahead = inputs.ahead;
    wanted = wanted;
    idle = idle;
    draining = outputs.draining;
    credit = list_of pattern.frame.deep outputs.credit;
    injecting = up_by injecting (links_count pattern);
  }

  abbrev places_in : Planes ℕ
  places_in = planes_by (set_alike (links_of pattern.table.ports.links) r) pattern.frame.places

  abbrev empty_column : Column
  empty_column = the_column (no_inputs (all_of (channels_of pattern.table.ports))) (free_outputs places_in) 0 (all_of (channels_of pattern.table.ports)) 0

  column-is : (router_of pattern h).column ≡ empty_column
  column-is = λ k. the_column (is.inputs k) (is.outputs k) (is.wanted k) (is.idle k) (is.injecting k)

  whole : set_below (size_in pattern) (λ c. true) < 2 ^ 64
  whole = let few = few-channels pattern in below-whole (size_in pattern) (λ c. true) (omega (arith, few))

  zero-up : up_by 0 (links_count pattern) ≡ 0
  zero-up = omega arith

  abbrev bits : ℕ
  bits = length (list_of pattern.frame.deep pattern.frame.places)

  words-are : AreWords bits empty_column
  words-are = record {
    len_bits = list-many pattern.frame.deep (no_inputs 0).len pattern.frame.places;
    credit_bits = list-many pattern.frame.deep places_in pattern.frame.places;
    waiting = omega arith;
    active = omega arith;
    len = none-fit pattern.frame.deep;
    supplied = omega arith;
    ahead = whole;
    wanted = omega arith;
    idle = whole;
    draining = omega arith;
    credit = alike-fit (links_of pattern.table.ports.links) pattern.frame.deep pattern.frame.places r (few-links pattern);
    injecting = subst (λ n. n < 2 ^ 64) (sym zero-up) (omega arith);
  }

  pub holds-column : (layout : Layout) (places : ℕ) → r < 64 → FitsLayout pattern layout → plane_number (list_of pattern.frame.deep pattern.frame.places) r ≡ places
      → IsEmptyColumn bits (size_in pattern) layout.links layout.local places (router_of pattern h).column
  holds-column layout places few fits room = subst (IsEmptyColumn bits (size_in pattern) layout.links layout.local places) (sym column-is) (record {
    words = words-are;
    waiting = refl;
    active = refl;
    len = λ x. none-number pattern.frame.deep x;
    supplied = refl;
    ahead = λ x l. all-members (size_in pattern) x ∙ lt-ltb x (size_in pattern) l;
    wanted = refl;
    idle = channels-parts pattern layout fits;
    draining = refl;
    credit = λ x e. alike-number (links_of pattern.table.ports.links) pattern.frame.deep pattern.frame.places r x (below x e) ∙ room;
    injecting = zero-up;
  })
    where
      below : (x : ℕ) → has_bit layout.links x ≡ true → x < links_count pattern
      below x e = ltb-true x (links_count pattern) (sym (all-members (links_count pattern) x) ∙ sym (ap (λ s. has_bit s x) fits.links) ∙ e)

  -- ---- its marks
  pub holds-marks : AreEmptyMarks (pattern.table.ports.links.width + 1) (size_in pattern) (router_of pattern h).marks
  holds-marks = record {
    turn = λ o i l m.
        ap (λ w. has_bit w i) (is.turn o (let f = few-channels pattern in omega (arith, l, f)))
        ∙ ones-members 64 i ∙ lt-ltb i 64 (let f = few-channels pattern in omega (arith, m, f));
    to_port = λ q i l m. has_bit-zero i;
    port_turn = λ q i l m.
        let p = port-below (pattern.table.ports.links.width + 1) pattern.table.ports.links.vcs pattern.some i m in
        below-members _ _ i
        ∙ ap₂ (λ a b. a && b) (lt-ltb i _ m)
        (ap (λ s. has_bit s (i / pattern.table.ports.links.vcs)) (is.pointers q l) ∙ all-members (pattern.table.ports.links.width + 1) (i / pattern.table.ports.links.vcs) ∙ lt-ltb _ _ p);
  }
