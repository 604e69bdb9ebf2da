-- What a router's source shows once a flit of its first packet is injected.
use Rattle.std.proofs.Common.{◌≡◌, ◌≢◌, ℕ, ◌+◌, ◌-◌, ◌^◌, ◌<◌, Bool, true, false, List, [], ◌∷◌, length, Option, Some, None, refl, ap, sym, ◌∙◌, subst, arith, inl, inr}
use Rattle.std.specs.Prelude.{◌⊎◌, find, nat_eq, nat_le, nat_lt, option_map, unwrap_or, if◌then◌else◌}
use Rattle.std.proofs.lemmas.Bool.{cases_eq, eq-eqb, ne_eqb, true≢false, false≢true}
use Rattle.std.proofs.lemmas.Option.{none-some, same_Some, slice_get_within}
use Rattle.noc_topo.specs.Lists.{below}
use Rattle.noc_packet.specs.Packet.{flit_at}
use Rattle.noc_packet.specs.declared.packet.Flit.{Flit}
use Rattle.noc_packet.specs.declared.packet.Packet.{Packet}
use Rattle.noc_view.specs.View.{View, begun_on, is_vacant, local_channel, view_after_inject, view_after_inject_from, view_buffer, with_injected, with_landed}
use Rattle.noc_sets.specs.Injected.{injection_from, injection_in}
use Rattle.noc_sets.specs.Source.{due_of, END, ShowsNext, ShowsQueue, ShowsSource, Source, Start, first_source, next_source, start_in}

-- the start at the front of a queue
front : (starts : List Start) (place : ℕ) (rest : List (ℕ × Packet)) → ShowsQueue starts place rest → (place < length starts) × ((start_in starts place).due ≡ due_of rest)
front starts place [] q = (slice_get_within starts place END q, ap (λ (o : Option Start). (unwrap_or o END).due) q)
front starts place ((number, p) ∷ rest) q = (slice_get_within starts place _ q.0, ap (λ (o : Option Start). (unwrap_or o END).due) q.0)

nothing-next : (s : Source) (queue : List (ℕ × Packet)) → ShowsNext s queue None
nothing-next s [] = tt
nothing-next s (one ∷ queue) = tt

module _ (starts : List Start) (few : length starts < 2 ^ 32) (s : Source) (number index vc : ℕ) (p : Packet) (rest : List (ℕ × Packet)) (w : View) (same : w.queue ≡ (number, p) ∷ rest)
    (due : s.due ≡ p.due) (queue : ShowsQueue starts s.queue ((number, p) ∷ rest)) (next : ShowsNext s ((number, p) ∷ rest) (Some (vc, index))) where
  -- whether the flit is the tail
  pub tail-is : nat_eq (index + 1) p.length ≡ nat_eq s.left 1
  tail-is = at (cases_eq s.left 1)
    where
      at : (s.left ≡ 1) ⊎ (s.left ≢ 1) → nat_eq (index + 1) p.length ≡ nat_eq s.left 1
      at (inl one) = eq-eqb (index + 1) p.length (omega (arith, next.1, one)) ∙ sym (eq-eqb s.left 1 one)
      at (inr more) = ne_eqb (index + 1) p.length (λ e. more (omega (arith, next.1, e))) ∙ sym (ne_eqb s.left 1 more)

  pub next-shows : ShowsSource starts (next_source starts s) (with_injected vc index number p rest w)
  next-shows = at (nat_eq s.left 1) (nat_eq (index + 1) p.length) refl (sym tail-is)
    where
      at : (a b : Bool) → nat_eq s.left 1 ≡ a → a ≡ b
          → ShowsSource starts
          (if a then record { due = (start_in starts (s.queue + 1)).due; left = 0; queue = s.queue + 1 } else record s { left = s.left - 1 })
          (record (with_landed (local_channel w.site vc) (flit_at p number index) w) { queue = if b then rest else w.queue; sending = if b then None else Some (vc, index + 1) })
      at true true is e =
          let begins = front starts (s.queue + 1) rest queue.2 in
          record {
            few = few;
            due = begins.1;
            queue = queue.2;
            next = nothing-next (record { due = (start_in starts (s.queue + 1)).due; left = 0; queue = s.queue + 1 }) rest;
          }
      at false false is e =
          let more : s.left ≢ 1 = λ one. false≢true (sym is ∙ eq-eqb s.left 1 one) in
          let some : 0 < s.left - 1 = omega (arith, next.0, more) in
          let sum : s.left - 1 + (index + 1) ≡ p.length = omega (arith, next.0, next.1) in
          record {
            few = few;
            due = due ∙ ap due_of (sym same);
            queue = subst (ShowsQueue starts s.queue) (sym same) queue;
            next = subst (λ (q : List (ℕ × Packet)). ShowsNext (record s { left = s.left - 1 }) q (Some (vc, index + 1))) (sym same) (some, sum);
          }
      at true false is e = absurd (true≢false e)
      at false true is e = absurd (false≢true e)

-- ---- by what is injected
-- a flit of the first packet, from a source that is ready
pub record HasInjectedFrom (starts : List Start) (s t : Source) (f : Flit) (x : View) : Type 0 where
  pub source : ShowsSource starts (next_source starts t) x
  pub tail : f.last ≡ nat_eq t.left 1

module _ (starts : List Start) (s : Source) (n : ℕ) (w : View) (shows : ShowsSource starts s w) where
  abbrev u : View
  u = record w { given = n }

  shows-given : ShowsSource starts s u
  shows-given = record { few = shows.few; due = shows.due; queue = shows.queue; next = shows.next }

  is-inject : view_after_inject n w ≡ view_after_inject_from n w.queue w.sending u
  unfolding view_after_inject
  is-inject = refl

  -- nothing
  pub nothing-injected : injection_in n w ≡ None → ShowsSource starts s (view_after_inject n w)
  nothing-injected e = subst (ShowsSource starts s) (sym is-inject) (by w.queue w.sending e)
    where
      by : (queue : List (ℕ × Packet)) (sending : Option (ℕ × ℕ)) → injection_from n queue sending w ≡ None → ShowsSource starts s (view_after_inject_from n queue sending u)
      by [] sending h = shows-given
      by ((number, p) ∷ rest) (Some (vc, index)) h = room (nat_lt (length (view_buffer w (local_channel w.site vc))) w.site.depth) h
        where
          room : (b : Bool) → if◌then◌else◌ {A = Option (ℕ × Flit)} b (Some (vc, flit_at p number index)) None ≡ None → ShowsSource starts s (if b then with_injected vc index number p rest u else u)
          room true k = absurd (cc k)
          room false k = shows-given
      by ((number, p) ∷ rest) None h = due (nat_le p.due n) h
        where
          begins : (o : Option ℕ) → option_map {U = ℕ × Flit} (λ vc. (vc, flit_at p number 0)) o ≡ None → ShowsSource starts s (begun_on o number p rest u)
          begins None k = shows-given
          begins (Some vc) k = absurd (cc k)

          due : (b : Bool) → (if b then option_map {U = ℕ × Flit} (λ vc. (vc, flit_at p number 0)) (find (is_vacant w) (below w.site.vcs)) else None) ≡ None
              → ShowsSource starts s (if b then begun_on (find (is_vacant u) (below w.site.vcs)) number p rest u else u)
          due true k = begins (find (is_vacant w) (below w.site.vcs)) k
          due false k = shows-given

  -- the next flit of a packet that has begun
  pub next-injected : (j index vc : ℕ) (f : Flit) → w.sending ≡ Some (j, index) → injection_in n w ≡ Some (vc, f) → HasInjectedFrom starts s s f (view_after_inject n w)
  next-injected j index vc f sends e =
      subst (λ (x : View). HasInjectedFrom starts s s f x) (sym (is-inject ∙ ap (λ o. view_after_inject_from n w.queue o u) sends))
      (by w.queue refl (sym (ap (λ o. injection_from n w.queue o w) sends) ∙ e) shows.due shows.queue (subst (ShowsNext s w.queue) sends shows.next))
    where
      by : (queue : List (ℕ × Packet)) → w.queue ≡ queue → injection_from n queue (Some (j, index)) w ≡ Some (vc, f) → s.due ≡ due_of queue → ShowsQueue starts s.queue queue → ShowsNext s queue (Some (j, index))
          → HasInjectedFrom starts s s f (view_after_inject_from n queue (Some (j, index)) u)
      by [] same h due q next = absurd (none-some (vc, f) h)
      by ((number, p) ∷ rest) same h due q next = room (nat_lt (length (view_buffer w (local_channel w.site j))) w.site.depth) h
        where
          room : (b : Bool) → if◌then◌else◌ {A = Option (ℕ × Flit)} b (Some (j, flit_at p number index)) None ≡ Some (vc, f) → HasInjectedFrom starts s s f (if b then with_injected j index number p rest u else u)
          room true k = record {
            source = next-shows starts shows.few s number index j p rest u same due q next;
            tail = ap (λ (y : ℕ × Flit). y.1.last) (sym (same_Some _ _ k)) ∙ tail-is starts shows.few s number index j p rest u same due q next;
          }
          room false k = absurd (none-some (vc, f) k)

  -- the head of the first packet
  pub record HasBegunFrom (vc : ℕ) (f : Flit) : Type 0 where
    pub injected : HasInjectedFrom starts s (first_source (start_in starts s.queue) s) f (view_after_inject n w)
    pub number : f.packet ≡ (start_in starts s.queue).number

  pub first-injected : (vc : ℕ) (f : Flit) → w.sending ≡ None → injection_in n w ≡ Some (vc, f) → HasBegunFrom vc f
  first-injected vc f idle e = by w.queue refl (sym (ap (λ o. injection_from n w.queue o w) idle) ∙ e) shows.due shows.queue
    where
      by : (queue : List (ℕ × Packet)) → w.queue ≡ queue → injection_from n queue None w ≡ Some (vc, f) → s.due ≡ due_of queue → ShowsQueue starts s.queue queue → HasBegunFrom vc f
      by [] same h due q = absurd (none-some (vc, f) h)
      by ((number, p) ∷ rest) same h due q = at (nat_le p.due n) refl (find (is_vacant w) (below w.site.vcs)) refl h
        where
          start : start_in starts s.queue ≡ record { number = number; length = p.length; due = p.due }
          start = ap (λ (o : Option Start). unwrap_or o END) q.0

          first : first_source (start_in starts s.queue) s ≡ record s { left = p.length }
          first = ap (λ (t : Start). first_source t s) start

          is : (b : Bool) → nat_le p.due n ≡ b → (o : Option ℕ) → find (is_vacant w) (below w.site.vcs) ≡ o → view_after_inject n w ≡ (if b then begun_on o number p rest u else u)
          is b d o z =
              is-inject ∙ ap (λ k. view_after_inject_from n w.queue k u) idle ∙ ap (λ k. view_after_inject_from n k None u) same
              ∙ ap (λ y. if y then begun_on (find (is_vacant w) (below w.site.vcs)) number p rest u else u) d
              ∙ ap (λ (k : Option ℕ). if b then begun_on k number p rest u else u) z

          at : (b : Bool) → nat_le p.due n ≡ b → (o : Option ℕ) → find (is_vacant w) (below w.site.vcs) ≡ o
              → (if nat_le p.due n then option_map {U = ℕ × Flit} (λ vc. (vc, flit_at p number 0)) (find (is_vacant w) (below w.site.vcs)) else None) ≡ Some (vc, f) → HasBegunFrom vc f
          at false d o z k = absurd (none-some (vc, f) (sym (ap (λ b. if b then option_map {U = ℕ × Flit} (λ vc. (vc, flit_at p number 0)) (find (is_vacant w) (below w.site.vcs)) else None) d) ∙ k))
          at true d None z k =
              absurd (none-some (vc, f) (sym (ap (λ b. if b then option_map {U = ℕ × Flit} (λ vc. (vc, flit_at p number 0)) (find (is_vacant w) (below w.site.vcs)) else None) d
              ∙ ap (option_map {U = ℕ × Flit} (λ vc. (vc, flit_at p number 0))) z) ∙ k))
          at true d (Some j) z k =
              let head : ◌≡◌ {A = ℕ × Flit} (j, flit_at p number 0) (vc, f) = same_Some _ _ (sym (ap (λ b. if b then option_map {U = ℕ × Flit} (λ vc. (vc, flit_at p number 0)) (find (is_vacant w) (below w.site.vcs)) else None) d
              ∙ ap (option_map {U = ℕ × Flit} (λ vc. (vc, flit_at p number 0))) z) ∙ k) in
              let next : ShowsNext (record s { left = p.length }) ((number, p) ∷ rest) (Some (j, 0)) = (q.1.some, omega arith) in
              let flit : flit_at p number 0 ≡ f = ap (λ (y : ℕ × Flit). y.1) head in
              record {
                injected = record {
                  source = subst (λ (x : View). ShowsSource starts (next_source starts (first_source (start_in starts s.queue) s)) x) (sym (is true d (Some j) z))
                      (subst (λ (t : Source). ShowsSource starts (next_source starts t) (with_injected j 0 number p rest u)) (sym first)
                      (next-shows starts shows.few (record s { left = p.length }) number 0 j p rest u same due q next));
                  tail = ap (λ (y : Flit). y.last) (sym flit) ∙ tail-is starts shows.few (record s { left = p.length }) number 0 j p rest u same due q next ∙ ap (λ (t : Source). nat_eq t.left 1) (sym first);
                };
                number = ap (λ (y : Flit). y.packet) (sym flit) ∙ ap (λ (t : Start). t.number) (sym start);
              }
