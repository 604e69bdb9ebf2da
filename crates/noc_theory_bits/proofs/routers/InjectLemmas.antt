-- What the words of a router give its source to inject, and what the view after it has.
use Rattle.std.proofs.Common.{◌≡◌, ◌≢◌, ℕ, ◌+◌, ◌-◌, ◌*◌, ◌^◌, ◌<◌, ◌≤◌, Bool, true, false, List, [], ◌∷◌, length, Option, Some, None, refl, ap, ap₂, sym, ◌∙◌, subst, arith, add-one, add-zero, zero-add, inl, inr, bit_and, bit_or}
use Rattle.std.specs.Prelude.{◌⊎◌, ◌&&◌, ◌||◌, not, find, is_some, option_map, unwrap_or, nat_eq, nat_le, nat_lt, if◌then◌else◌}
use Rattle.std.proofs.lemmas.Bool.{leb-true}
use Rattle.std.proofs.Math.Nat.{pow-le-pow_right}
use Rattle.noc_packet.proofs.SetLemmas.{same_set}
use Rattle.noc_sets.specs.Passes.{injecting_after, lane_free}
use Rattle.noc_sets.specs.Planes.{any_from}
use Rattle.noc_sets.specs.Source.{first_source, next_source, sent_source, start_in, NEVER, END}
use Rattle.noc_sets.proofs.AskLemmas.{vacant-is}
use Rattle.noc_sets.proofs.MemberLemmas.{lowest-one, and-false, and-true}
use Rattle.noc_sets.proofs.FlitLemmas.{free-members}
use Rattle.noc_sets.proofs.SourceLemmas.{next-shows, tail-is}
use Rattle.noc_sets.proofs.PlaneLemmas.{wrong-members}
use Rattle.noc_theory_bits.proofs.Common.{cases_eq, cases_lt, eq-eqb, ne_eqb, eqb-true, lt-leb, le-leb, lt-ltb, le-ltb, ltb-true, true≢false, false≢true, and_parts, below, one_if, local_port, flit_at, has_bit, IsLeast, Packet, Flit, both_members, either_members, has_bit-zero, is_active, is_empty, is_idle_phase, is_waiting, InputState, Idle, Waiting, Active, View, size_of, local_channel, view_buffer, view_input, is_vacant, with_injected, begun_on, view_after_inject_from, lowest, least, Column, AreWords, ShowsSending, injection_from, injected_to, lane_begins, lane_injected, plane_number, wrong_from, AreAll, ShowsNext, ShowsQueue, ShowsSource, begun_source, due_of, Source, Start, least_is, lowest_members, or-zero, power-members, below_fits, less_fits}

zero-or : (a : ℕ) → bit_or 0 a ≡ a
zero-or a = same_set (bit_or 0 a) a (λ k. either_members 0 a k ∙ ap (λ b. b || has_bit a k) (has_bit-zero k))

zero-and : (a : ℕ) → bit_and 0 a ≡ 0
zero-and a = same_set (bit_and 0 a) 0 (λ k. both_members 0 a k ∙ ap (λ b. b && has_bit a k) (has_bit-zero k) ∙ sym (has_bit-zero k))

suc-mul : (a b : ℕ) → (a + 1) * b ≡ a * b + b
suc-mul a b = ap (λ k. k * b) (add-one a) ∙ omega arith

power-some : (k : ℕ) → nat_eq (2 ^ k) 0 ≡ false
power-some k = ne_eqb (2 ^ k) 0 (λ e. absurd (true≢false (sym (power-members k k ∙ eq-eqb k k refl) ∙ ap (λ x. has_bit x k) e ∙ has_bit-zero k)))

-- where j are the channels into which a packet that has begun goes on, and b those in which one may
-- begin: the source injects into the channels `went`, one at most, and then shows the view x
pub record HasSent (c : Column) (starts : List Start) (s : Source) (w x : View) (j b went : ℕ) (new : Option (ℕ × Flit)) : Type 0 where
  pub goes : (i : ℕ) → i < size_of w.site → has_bit went i ≡ is_some (injected_to w new i)
  pub local : (i : ℕ) → has_bit went i ≡ true → (local_channel w.site 0 ≤ i) × (i < size_of w.site)
  pub vacant : (i : ℕ) → has_bit (lowest b) i ≡ true → plane_number c.len i ≡ 0
  pub place : (i : ℕ) → has_bit went i ≡ true → length (view_buffer w i) < w.site.depth
  pub alone : lowest went ≡ went
  pub parts : (i : ℕ) → one_if (has_bit j i) + one_if (has_bit (lowest b) i) ≡ one_if (has_bit went i)
  pub source : ShowsSource starts (sent_source starts went (begun_source starts b s)) x
  pub injecting : ShowsSending (record c { injecting = injecting_after went (begun_source starts b s).left (bit_or c.injecting (lowest b)) }) x x.sending

-- nothing is injected
module _ (c : Column) (starts : List Start) (s : Source) (w x : View) (queue : List (ℕ × Packet)) (sending : Option (ℕ × ℕ)) (few : length starts < 2 ^ 32)
    (due : s.due ≡ due_of queue) (shows : ShowsQueue starts s.queue queue) (next : ShowsNext s queue sending) (left : x.queue ≡ queue) (still : x.sending ≡ sending) (sends : ShowsSending c x sending) where
  none-sent : HasSent c starts s w x 0 0 0 None
  none-sent = record {
    goes = λ i l. has_bit-zero i;
    local = λ i e. absurd (true≢false (sym e ∙ has_bit-zero i));
    vacant = λ i e. absurd (true≢false (sym e ∙ has_bit-zero i));
    place = λ i e. absurd (true≢false (sym e ∙ has_bit-zero i));
    alone = refl;
    parts = λ i. ap (λ b. one_if b + one_if b) (has_bit-zero i) ∙ sym (ap one_if (has_bit-zero i));
    source = record {
      few = few;
      due = due ∙ ap due_of (sym left);
      queue = subst (ShowsQueue starts s.queue) (sym left) shows;
      next = subst (λ (q : List (ℕ × Packet)). ShowsNext s q x.sending) (sym left) (subst (ShowsNext s queue) (sym still) next);
    };
    injecting = subst (λ (k : ℕ). ShowsSending (record c { injecting = k }) x x.sending) (sym (or-zero c.injecting)) (subst (ShowsSending c x) (sym still) sends);
  }

-- a flit of the first packet is injected into a local channel
module _ (c : Column) (starts : List Start) (s : Source) (w : View) (number index vc : ℕ) (p : Packet) (rest : List (ℕ × Packet)) (few : length starts < 2 ^ 32) (within : vc < w.site.vcs) (size : size_of w.site ≤ 64) (free : length (view_buffer w (local_channel w.site vc)) < w.site.depth)
    (same : w.queue ≡ (number, p) ∷ rest) (due : s.due ≡ p.due) (queue : ShowsQueue starts s.queue ((number, p) ∷ rest)) where
  x : View
  x = with_injected vc index number p rest w

  is-local : (i : ℕ) → has_bit (2 ^ local_channel w.site vc) i ≡ true → i ≡ local_channel w.site vc
  is-local i e = eqb-true i (local_channel w.site vc) (sym (power-members (local_channel w.site vc) i) ∙ e)

  size-is : local_channel w.site w.site.vcs ≡ size_of w.site
  size-is = sym (suc-mul (local_port w.site.grid) w.site.vcs)

  in-range : (i : ℕ) → has_bit (2 ^ local_channel w.site vc) i ≡ true → (local_channel w.site 0 ≤ i) × (i < size_of w.site)
  in-range i e = let is : i ≡ local_channel w.site vc = is-local i e in (omega (arith, is), omega (arith, is, size-is, within))

  has-place : (i : ℕ) → has_bit (2 ^ local_channel w.site vc) i ≡ true → length (view_buffer w i) < w.site.depth
  has-place i e = subst (λ (k : ℕ). length (view_buffer w k) < w.site.depth) (sym (is-local i e)) free

  only : lowest (2 ^ local_channel w.site vc) ≡ 2 ^ local_channel w.site vc
  only =
      lowest-one (2 ^ local_channel w.site vc) (local_channel w.site vc) (
        power-members (local_channel w.site vc) (local_channel w.site vc) ∙ eq-eqb (local_channel w.site vc) (local_channel w.site vc) refl,
        λ k l. power-members (local_channel w.site vc) k ∙ ne_eqb k (local_channel w.site vc) (λ e. absurd (omega (arith, e, l))),
      )

  reaches : (f : Flit) (i : ℕ) → has_bit (2 ^ local_channel w.site vc) i ≡ is_some (injected_to w (Some (vc, f)) i)
  reaches f i = power-members (local_channel w.site vc) i ∙ at (nat_eq i (local_channel w.site vc))
    where
      at : (b : Bool) → b ≡ is_some (if b then Some f else None)
      at true = refl
      at false = refl

  -- what is being injected then, from the source that has the flit
  sending-after : (t : Source) → nat_eq t.left 1 ≡ nat_eq (index + 1) p.length
      → ShowsSending (record c { injecting = injecting_after (2 ^ local_channel w.site vc) t.left (2 ^ local_channel w.site vc) }) (with_injected vc index number p rest w) (with_injected vc index number p rest w).sending
  sending-after t tail = at (nat_eq t.left 1) (nat_eq (index + 1) p.length) tail
    where
      at : (a b : Bool) → a ≡ b → ShowsSending (record c { injecting = if not (nat_eq (2 ^ local_channel w.site vc) 0) && a then 0 else 2 ^ local_channel w.site vc }) (with_injected vc index number p rest w) (if b then None else Some (vc, index + 1))
      at true true e = ap (λ (y : Bool). if not y && true then 0 else 2 ^ local_channel w.site vc) (power-some (local_channel w.site vc))
      at false false e = (within, ap (λ (y : Bool). if not y && false then 0 else 2 ^ local_channel w.site vc) (power-some (local_channel w.site vc)))
      at true false e = absurd (true≢false e)
      at false true e = absurd (false≢true e)

  -- a packet that has begun
  goes-on : ShowsNext s ((number, p) ∷ rest) (Some (vc, index)) → c.injecting ≡ 2 ^ local_channel w.site vc
      → HasSent c starts s w (with_injected vc index number p rest w) (2 ^ local_channel w.site vc) 0 (2 ^ local_channel w.site vc) (Some (vc, flit_at p number index))
  goes-on next holds = record {
    goes = λ i l. reaches (flit_at p number index) i;
    local = in-range;
    vacant = λ i e. absurd (true≢false (sym e ∙ has_bit-zero i));
    place = has-place;
    alone = only;
    parts = λ i. ap (λ b. one_if (has_bit (2 ^ local_channel w.site vc) i) + one_if b) (has_bit-zero i) ∙ add-zero (one_if (has_bit (2 ^ local_channel w.site vc) i));
    source = subst (λ (b : Bool). ShowsSource starts (if b then s else next_source starts s) (with_injected vc index number p rest w)) (sym (power-some (local_channel w.site vc)))
        (next-shows starts few s number index vc p rest w same due queue next);
    injecting = subst (λ (k : ℕ). ShowsSending (record c { injecting = injecting_after (2 ^ local_channel w.site vc) s.left k }) (with_injected vc index number p rest w) (with_injected vc index number p rest w).sending)
        (sym (or-zero c.injecting ∙ holds)) (sending-after s (sym (tail-is starts few s number index vc p rest w same due queue next)));
  }

  -- a packet that begins in the least of the vacant channels
  begins : (b : ℕ) → nat_eq b 0 ≡ false → lowest b ≡ 2 ^ local_channel w.site vc → ((i : ℕ) → has_bit (lowest b) i ≡ true → plane_number c.len i ≡ 0) → c.injecting ≡ 0 → index ≡ 0
      → HasSent c starts s w (with_injected vc 0 number p rest w) 0 b (2 ^ local_channel w.site vc) (Some (vc, flit_at p number 0))
  begins b some is vacant idle head = record {
    goes = λ i l. reaches (flit_at p number 0) i;
    local = in-range;
    vacant = vacant;
    place = has-place;
    alone = only;
    parts = λ i. ap (λ y. one_if y + one_if (has_bit (lowest b) i)) (has_bit-zero i) ∙ ap (λ y. 0 + one_if (has_bit y i)) is ∙ zero-add (one_if (has_bit (2 ^ local_channel w.site vc) i));
    source = subst (λ (t : Source). ShowsSource starts (sent_source starts (2 ^ local_channel w.site vc) t) (with_injected vc 0 number p rest w)) (sym begun)
        (subst (λ (y : Bool). ShowsSource starts (if y then first else next_source starts first) (with_injected vc 0 number p rest w)) (sym (power-some (local_channel w.site vc)))
        (next-shows starts few first number 0 vc p rest w same due queue next));
    injecting = subst (λ (t : Source). ShowsSending (record c { injecting = injecting_after (2 ^ local_channel w.site vc) t.left (bit_or c.injecting (lowest b)) }) (with_injected vc 0 number p rest w) (with_injected vc 0 number p rest w).sending) (sym begun)
        (subst (λ (k : ℕ). ShowsSending (record c { injecting = injecting_after (2 ^ local_channel w.site vc) first.left k }) (with_injected vc 0 number p rest w) (with_injected vc 0 number p rest w).sending)
        (sym (ap (λ k. bit_or k (lowest b)) idle ∙ zero-or (lowest b) ∙ is))
        (subst (λ (n : ℕ). ShowsSending (record c { injecting = injecting_after (2 ^ local_channel w.site vc) first.left (2 ^ local_channel w.site vc) }) (with_injected vc n number p rest w) (with_injected vc n number p rest w).sending) head
        (sending-after first (subst (λ (n : ℕ). nat_eq first.left 1 ≡ nat_eq (n + 1) p.length) (sym head) (sym (tail-is starts few first number 0 vc p rest w same due queue next))))));
  }
    where
      first : Source
      first = record s { left = p.length }

      begun : begun_source starts b s ≡ record s { left = p.length }
      begun =
          ap (λ (y : Bool). if y then s else first_source (start_in starts s.queue) s) some
          ∙ ap (λ (o : Option Start). first_source (unwrap_or o END) s) queue.0

      next : ShowsNext (record s { left = p.length }) ((number, p) ∷ rest) (Some (vc, 0))
      next = (queue.1.some, omega arith)

idle-empty : (phase : InputState) (flits : List Flit) → not ((is_waiting phase || is_active phase) || nat_lt 0 (length flits)) ≡ (is_idle_phase phase && is_empty flits)
idle-empty Idle [] = ap not (le-ltb 0 0 (omega arith))
idle-empty Idle (f ∷ flits) = ap not (lt-ltb 0 (length (f ∷ flits)) (omega arith))
idle-empty (Waiting set) flits = refl
idle-empty (Active o) flits = refl

-- the words of a router, of which the local channels are as the view u shows them, before its
-- source injects in cycle n
module _ (count : ℕ) (c : Column) (starts : List Start) (s : Source) (u : View) (n local : ℕ) (bits : List ℕ) (words : AreWords count c) (few : length starts < 2 ^ 32) (now : n < NEVER) (size : size_of u.site ≤ 64) (all : AreAll count (size_of u.site) u.site.depth bits) (some_place : 0 < u.site.depth)
    (is-local : (i : ℕ) → has_bit local i ≡ (nat_le (local_channel u.site 0) i && nat_lt i (size_of u.site)))
    (len : (i : ℕ) → local_channel u.site 0 ≤ i → i < size_of u.site → plane_number c.len i ≡ length (view_buffer u i))
    (waiting : (i : ℕ) → local_channel u.site 0 ≤ i → i < size_of u.site → has_bit c.waiting i ≡ is_waiting (view_input u i).phase)
    (active : (i : ℕ) → local_channel u.site 0 ≤ i → i < size_of u.site → has_bit c.active i ≡ is_active (view_input u i).phase)
    (lens : (i : ℕ) → local_channel u.site 0 ≤ i → i < size_of u.site → length (view_buffer u i) ≤ u.site.depth) where
  abbrev Sent : View → Option (ℕ × Flit) → Type 0
  Sent x new = HasSent c starts s u x (lane_injected bits c) (lane_begins local n s.due c) (bit_or (lane_injected bits c) (lowest (lane_begins local n s.due c))) new

  words-as : (x : View) (new : Option (ℕ × Flit)) (j b went : ℕ) → lane_injected bits c ≡ j → lane_begins local n s.due c ≡ b → bit_or j (lowest b) ≡ went
      → HasSent c starts s u x j b went new → Sent x new
  words-as x new j b went ej eb ew sent =
      subst (λ (k : ℕ). HasSent c starts s u x k (lane_begins local n s.due c) (bit_or k (lowest (lane_begins local n s.due c))) new) (sym ej)
      (subst (λ (k : ℕ). HasSent c starts s u x j k (bit_or j (lowest k)) new) (sym eb)
      (subst (λ (k : ℕ). HasSent c starts s u x j b k new) (sym ew) sent))

  local-fits : local < 2 ^ 64
  local-fits =
      let p : 2 ^ size_of u.site ≤ 2 ^ 64 = pow-le-pow_right (omega arith) size in
      omega (arith, p, below_fits (size_of u.site) local (λ i e. ltb-true i (size_of u.site) (and_parts (nat_le (local_channel u.site 0) i) (nat_lt i (size_of u.site)) (sym (is-local i) ∙ e)).1))

  free-fits : lane_free local c < 2 ^ 64
  free-fits = less_fits local (bit_or (bit_or c.waiting c.active) (any_from 0 c.len)) local-fits

  quiet : c.injecting ≡ 0 → lane_injected bits c ≡ 0
  quiet e = ap (λ k. bit_and k (wrong_from 0 c.len bits)) e ∙ zero-and (wrong_from 0 c.len bits)

  size-of : local_channel u.site u.site.vcs ≡ size_of u.site
  size-of = sym (suc-mul (local_port u.site.grid) u.site.vcs)

  of-channel : (vc : ℕ) → vc < u.site.vcs → (local_channel u.site 0 ≤ local_channel u.site vc) × (local_channel u.site vc < size_of u.site)
  of-channel vc l = (omega arith, omega (arith, l, size-of))

  -- whether the channel of a packet that has begun has a place
  open-is : (i : ℕ) → local_channel u.site 0 ≤ i → i < size_of u.site → has_bit (wrong_from 0 c.len bits) i ≡ nat_lt (length (view_buffer u i)) u.site.depth
  open-is i a b =
      wrong-members c.len bits count (size_of u.site) u.site.depth i words.len_bits b all
      ∙ ap (λ k. not (nat_eq k u.site.depth)) (len i a b)
      ∙ below-or (length (view_buffer u i)) u.site.depth (lens i a b)
    where
      below-or : (k m : ℕ) → k ≤ m → not (nat_eq k m) ≡ nat_lt k m
      below-or k m le = elim (cases_eq k m) [
        | inl same ↦ ap not (eq-eqb k m same) ∙ sym (le-ltb k m (omega (arith, same)))
        | inr other ↦ ap not (ne_eqb k m other) ∙ sym (lt-ltb k m (omega (arith, le, other)))
      ]

  -- a packet that has begun
  going : (vc index number : ℕ) (p : Packet) (rest : List (ℕ × Packet)) → u.queue ≡ (number, p) ∷ rest → u.sending ≡ Some (vc, index) → s.due ≡ p.due
      → ShowsQueue starts s.queue ((number, p) ∷ rest) → ShowsNext s ((number, p) ∷ rest) (Some (vc, index)) → ShowsSending c u (Some (vc, index))
      → Sent (view_after_inject_from n ((number, p) ∷ rest) (Some (vc, index)) u) (injection_from n ((number, p) ∷ rest) (Some (vc, index)) u)
  going vc index number p rest queue sending due shows next sends = at (nat_lt (length (view_buffer u (local_channel u.site vc))) u.site.depth) refl
    where
      none : lane_begins local n s.due c ≡ 0
      none =
          ap (λ y. if nat_le s.due n && y then lane_free local c else 0) (ap (λ k. nat_eq k 0) sends.1 ∙ power-some (local_channel u.site vc))
          ∙ off (nat_le s.due n)
        where
          off : (y : Bool) → (if y && false then lane_free local c else 0) ≡ 0
          off true = refl
          off false = refl

      goes-if : (b : Bool) → nat_lt (length (view_buffer u (local_channel u.site vc))) u.site.depth ≡ b → lane_injected bits c ≡ (if b then 2 ^ local_channel u.site vc else 0)
      goes-if b e = same_set (lane_injected bits c) (if b then 2 ^ local_channel u.site vc else 0) (λ k. each k (cases_eq k (local_channel u.site vc)))
        where
          members : (k : ℕ) → has_bit (lane_injected bits c) k ≡ (nat_eq k (local_channel u.site vc) && has_bit (wrong_from 0 c.len bits) k)
          members k =
              both_members c.injecting (wrong_from 0 c.len bits) k
              ∙ ap (λ y. y && has_bit (wrong_from 0 c.len bits) k) (ap (λ y. has_bit y k) sends.1 ∙ power-members (local_channel u.site vc) k)

          if-member : (y : Bool) (k : ℕ) → has_bit (if y then 2 ^ local_channel u.site vc else 0) k ≡ (nat_eq k (local_channel u.site vc) && y)
          if-member true k = power-members (local_channel u.site vc) k ∙ sym (and-true (nat_eq k (local_channel u.site vc)))
          if-member false k = has_bit-zero k ∙ sym (and-false (nat_eq k (local_channel u.site vc)))

          each : (k : ℕ) → (k ≡ local_channel u.site vc) ⊎ (k ≢ local_channel u.site vc) → has_bit (lane_injected bits c) k ≡ has_bit (if b then 2 ^ local_channel u.site vc else 0) k
          each k (inl same) =
              members k ∙ ap (λ y. nat_eq k (local_channel u.site vc) && y) (ap (has_bit (wrong_from 0 c.len bits)) same ∙ open-is (local_channel u.site vc) (of-channel vc sends.0).0 (of-channel vc sends.0).1 ∙ e)
              ∙ sym (if-member b k)
          each k (inr other) =
              members k ∙ ap (λ y. y && has_bit (wrong_from 0 c.len bits) k) (ne_eqb k (local_channel u.site vc) other)
              ∙ sym (if-member b k ∙ ap (λ y. y && b) (ne_eqb k (local_channel u.site vc) other))

      at : (b : Bool) → nat_lt (length (view_buffer u (local_channel u.site vc))) u.site.depth ≡ b
          → Sent (if b then with_injected vc index number p rest u else u) (if b then Some (vc, flit_at p number index) else None)
      at true e =
          words-as (with_injected vc index number p rest u) (Some (vc, flit_at p number index)) (2 ^ local_channel u.site vc) 0 (2 ^ local_channel u.site vc) (goes-if true e) none (or-zero (2 ^ local_channel u.site vc))
          (goes-on c starts s u number index vc p rest few sends.0 size (ltb-true (length (view_buffer u (local_channel u.site vc))) u.site.depth e) queue due shows next sends.1)
      at false e =
          words-as u None 0 0 0 (goes-if false e) none refl
          (none-sent c starts s u u ((number, p) ∷ rest) (Some (vc, index)) few due shows next queue sending sends)

  -- a packet that may begin
  beginning : (number : ℕ) (p : Packet) (rest : List (ℕ × Packet)) → u.queue ≡ (number, p) ∷ rest → u.sending ≡ None → s.due ≡ p.due
      → ShowsQueue starts s.queue ((number, p) ∷ rest) → c.injecting ≡ 0 → Sent (view_after_inject_from n ((number, p) ∷ rest) None u) (injection_from n ((number, p) ∷ rest) None u)
  beginning number p rest queue sending due shows idle = at (nat_le p.due n) refl
    where
      may-if : lane_begins local n s.due c ≡ (if nat_le p.due n then lane_free local c else 0)
      may-if =
          ap (λ d. if nat_le d n && nat_eq c.injecting 0 then lane_free local c else 0) due
          ∙ ap (λ k. if nat_le p.due n && nat_eq k 0 then lane_free local c else 0) idle
          ∙ ap (λ y. if y then lane_free local c else 0) (and-true (nat_le p.due n))

      no-flit : lane_begins local n s.due c ≡ 0 → Sent u None
      no-flit e = words-as u None 0 0 0 (quiet idle) e refl (none-sent c starts s u u ((number, p) ∷ rest) None few due shows tt queue sending idle)

      members : (i : ℕ) → has_bit (lane_free local c) i ≡ (has_bit local i && not ((has_bit c.waiting i || has_bit c.active i) || nat_lt 0 (plane_number c.len i)))
      members i = free-members c local i

      range : (i : ℕ) → has_bit (lane_free local c) i ≡ true → (local_channel u.site 0 ≤ i) × (i < local_channel u.site u.site.vcs)
      range i e =
          let is = and_parts (has_bit local i) (not ((has_bit c.waiting i || has_bit c.active i) || nat_lt 0 (plane_number c.len i))) (sym (members i) ∙ e) in
          let both = and_parts (nat_le (local_channel u.site 0) i) (nat_lt i (size_of u.site)) (sym (is-local i) ∙ is.0) in
          let low : local_channel u.site 0 ≤ i = leb-true (local_channel u.site 0) i both.0 in
          let high : i < size_of u.site = ltb-true i (size_of u.site) both.1 in
          (low, omega (arith, high, size-of))

      each : (vc : ℕ) → vc < u.site.vcs → has_bit (lane_free local c) (local_channel u.site vc) ≡ is_vacant u vc
      each vc l =
          let place = of-channel vc l in
          members (local_channel u.site vc)
          ∙ ap (λ y. y && not ((has_bit c.waiting (local_channel u.site vc) || has_bit c.active (local_channel u.site vc)) || nat_lt 0 (plane_number c.len (local_channel u.site vc))))
          (is-local (local_channel u.site vc) ∙ ap₂ (λ a b. a && b) (le-leb (local_channel u.site 0) (local_channel u.site vc) place.0) (lt-ltb (local_channel u.site vc) (size_of u.site) place.1))
          ∙ ap₂ (λ a b. not (a || b)) (ap₂ (λ a b. a || b) (waiting (local_channel u.site vc) place.0 place.1) (active (local_channel u.site vc) place.0 place.1)) (ap (nat_lt 0) (len (local_channel u.site vc) place.0 place.1))
          ∙ idle-empty (view_input u (local_channel u.site vc)).phase (view_buffer u (local_channel u.site vc))

      due-now : nat_le p.due n ≡ true → (y : Bool) → nat_eq (lane_free local c) 0 ≡ y
          → Sent (begun_on (if y then None else Some (least (lane_free local c) - local_channel u.site 0)) number p rest u) (option_map (λ vc. (vc, flit_at p number 0)) (if y then None else Some (least (lane_free local c) - local_channel u.site 0)))
      due-now e true free = no-flit (may-if ∙ ap (λ y. if y then lane_free local c else 0) e ∙ eqb-true (lane_free local c) 0 free)
      due-now e false free =
          words-as (with_injected vc 0 number p rest u) (Some (vc, flit_at p number 0)) 0 (lane_free local c) (2 ^ local_channel u.site vc) (quiet idle) (may-if ∙ ap (λ y. if y then lane_free local c else 0) e)
          (zero-or (lowest (lane_free local c)) ∙ low)
          (begins c starts s u number 0 vc p rest few inside size has-room queue due shows (lane_free local c) free low empty idle refl)
        where
          t : ℕ
          t = least (lane_free local c)

          vc : ℕ
          vc = least (lane_free local c) - local_channel u.site 0

          some : 0 < lane_free local c
          some = elim (cases_eq (lane_free local c) 0) [ inl z ↦ absurd (true≢false (sym (eq-eqb (lane_free local c) 0 z) ∙ free)) | inr o ↦ omega arith ]

          is_least : IsLeast (has_bit (lane_free local c)) (Some (least (lane_free local c)))
          is_least = least_is (lane_free local c) some free-fits

          back : local_channel u.site (least (lane_free local c) - local_channel u.site 0) ≡ least (lane_free local c)
          back = let r = range (least (lane_free local c)) is_least.0 in omega (arith, r.0)

          inside : least (lane_free local c) - local_channel u.site 0 < u.site.vcs
          inside = let r = range (least (lane_free local c)) is_least.0 in omega (arith, r.0, r.1)

          low : lowest (lane_free local c) ≡ 2 ^ local_channel u.site (least (lane_free local c) - local_channel u.site 0)
          low =
              lowest-one (lane_free local c) (least (lane_free local c)) is_least
              ∙ ap (λ k. 2 ^ k) (sym back)

          empty : (i : ℕ) → has_bit (lowest (lane_free local c)) i ≡ true → plane_number c.len i ≡ 0
          empty i h =
              let same : i ≡ least (lane_free local c) = eqb-true i (least (lane_free local c)) (sym (lowest_members (lane_free local c) (least (lane_free local c)) i is_least) ∙ h) in
              let member : has_bit (lane_free local c) i ≡ true = ap (has_bit (lane_free local c)) same ∙ is_least.0 in
              let is = and_parts (has_bit local i) (not ((has_bit c.waiting i || has_bit c.active i) || nat_lt 0 (plane_number c.len i))) (sym (members i) ∙ member) in
              zero-of (plane_number c.len i) (nor (has_bit c.waiting i || has_bit c.active i) (nat_lt 0 (plane_number c.len i)) is.1)
            where
              nor : (a b : Bool) → not (a || b) ≡ true → b ≡ false
              nor true b q = absurd (false≢true q)
              nor false true q = absurd (false≢true q)
              nor false false q = refl

              zero-of : (k : ℕ) → nat_lt 0 k ≡ false → k ≡ 0
              zero-of k q = elim (cases_lt 0 k) [ inl more ↦ absurd (true≢false (sym (lt-ltb 0 k more) ∙ q)) | inr none ↦ omega arith ]

          has-room : length (view_buffer u (local_channel u.site (least (lane_free local c) - local_channel u.site 0))) < u.site.depth
          has-room =
              let of = of-channel (least (lane_free local c) - local_channel u.site 0) inside in
              let none = empty (local_channel u.site (least (lane_free local c) - local_channel u.site 0))
              (lowest_members (lane_free local c) (least (lane_free local c)) (local_channel u.site (least (lane_free local c) - local_channel u.site 0)) is_least ∙ eq-eqb _ _ back) in
              omega (arith, some_place, none, len (local_channel u.site (least (lane_free local c) - local_channel u.site 0)) of.0 of.1)

      at : (b : Bool) → nat_le p.due n ≡ b
          → Sent (if b then begun_on (find (is_vacant u) (below u.site.vcs)) number p rest u else u) (if b then option_map (λ vc. (vc, flit_at p number 0)) (find (is_vacant u) (below u.site.vcs)) else None)
      at true e =
          subst (λ (o : Option ℕ). Sent (begun_on o number p rest u) (option_map (λ vc. (vc, flit_at p number 0)) o)) (sym (vacant-is u (lane_free local c) free-fits range each))
          (due-now e (nat_eq (lane_free local c) 0) refl)
      at false e = no-flit (may-if ∙ ap (λ y. if y then lane_free local c else 0) e)

  -- what the source injects
  pub sent-by : (queue : List (ℕ × Packet)) (sending : Option (ℕ × ℕ)) → u.queue ≡ queue → u.sending ≡ sending → s.due ≡ due_of queue
      → ShowsQueue starts s.queue queue → ShowsNext s queue sending → ShowsSending c u sending → Sent (view_after_inject_from n queue sending u) (injection_from n queue sending u)
  sent-by [] None left still due shows next idle =
      words-as u None 0 0 0 (quiet idle)
      (ap (λ d. if nat_le d n && nat_eq c.injecting 0 then lane_free local c else 0) due ∙ ap (λ y. if y && nat_eq c.injecting 0 then lane_free local c else 0) (lt-leb NEVER n now))
      refl (none-sent c starts s u u [] None few due shows tt left still idle)
  sent-by [] (Some (vc, index)) left still due shows next sends = absurd next
  sent-by ((number, p) ∷ rest) None left still due shows next idle = beginning number p rest left still due shows idle
  sent-by ((number, p) ∷ rest) (Some (vc, index)) left still due shows next sends = going vc index number p rest left still due shows next sends
