-- One input channel and one output channel of a router change.
use Rattle.std.proofs.Common.{◌≡◌, ◌≢◌, ℕ, zero, suc, ◌+◌, ◌-◌, ◌<◌, ◌≤◌, Bool, true, false, List, [], ◌∷◌, ◌++◌, length, drop, Option, Some, None, refl, ap, sym, subst, ◌∙◌, inl, inr, arith, get_or-set_same, get_or-set_other, slice_index_or, slice_set}
use Rattle.std.specs.Prelude.{◌⊎◌, nat_eq, nat_lt, not, ◌&&◌, ◌||◌, is_some, if◌then◌else◌, replicate}
use Rattle.std.specs.List.{All}
use Rattle.std.specs.Option.{option_eq}
use Rattle.std.proofs.lemmas.Bool.{cases_eq, false≢true, eq-eqb, ne_eqb, eqb-true, lt-ltb, and_parts}
use Rattle.std.proofs.lemmas.List.{get_or_default, set-get_or, get_or-replicate, length-replicate, length-append, length-set}
use Rattle.std.proofs.lemmas.List.Elements.{All-append, All-replicate}
use Rattle.noc_packet.specs.declared.packet.Flit.{Flit}
use Rattle.noc_ring.specs.Buffers.{Buffers, buffer_at, buffers_after_push, buffers_after_pop, empty_buffers}
use Rattle.noc_route.specs.Routes.{Routes}
use Rattle.noc_vc.specs.Input.{Input, idle_input, is_waiting, is_empty, next_of, may_begin, is_expected, fits, input_after_land, input_after_route, input_after_grant, input_after_send}
use Rattle.noc_vc.specs.Output.{Output, ejection_output, link_output, is_free, is_owned, has_credit_at, holder_at, output_with_credit, output_after_credit, output_after_hold, output_without_credit, output_after_spend}
use Rattle.noc_vc.specs.declared.input.Awaited.{Awaited}
use Rattle.noc_vc.specs.declared.input.InputState.{InputState}
use Rattle.noc_vc.specs.declared.input.InputState.TheVariants.{Idle, Waiting, Active}
use Rattle.noc_vc.specs.declared.output.OutputState.{OutputState}
use Rattle.noc_vc.specs.declared.output.OutputState.TheVariants.{Idle as Free, Owned, Draining}
use Rattle.noc_router.specs.Members.{is_within}
use Rattle.noc_router.specs.Parts.{ChannelStates, states_after_credit, states_after_land}
use Rattle.noc_router.specs.Sound.{KeepsAwaiting, is_awaiting, is_worm, is_worm_of, AreSound}
use Rattle.noc_view.specs.States.{owns, is_owned_from}

-- ---- an element of a list is replaced

-- what is true of the new element, and of the others as before
each-set : {X : Type 0} (P : ℕ → X → Type 0) (xs : List X) (i : ℕ) (y d : X) → i < length xs → P i y → ((k : ℕ) → k ≢ i → P k (slice_index_or xs k d))
    → (k : ℕ) → P k (slice_index_or (slice_set xs i y) k d)
each-set P xs i y d l here other k = at (cases_eq k i)
  where
    at : (k ≡ i) ⊎ (k ≢ i) → P k (slice_index_or (slice_set xs i y) k d)
    at (inl e) = rw e (rw (get_or-set_same xs i y d l) here)
    at (inr n) = rw (get_or-set_other xs i k y d n) (other k n)

-- ---- the channels stay sound

-- one input channel gets another state and other flits, and the output channels are owned from it
-- alone otherwise than before
AreSound-changed : (size : ℕ) (buffers : List (List Flit)) (inputs : List Input) (outputs after : List Output) (i : ℕ) (x : Input) (flits : List Flit)
    → AreSound size buffers inputs outputs → length buffers ≡ size → length inputs ≡ size → i < size
    → is_within size x.phase ≡ true → is_worm_of x flits ≡ true
    → ((o : ℕ) → o < size → owns x.phase o ≡ is_owned_from (slice_index_or after o ejection_output).holder i)
    → ((k o : ℕ) → o < size → k ≢ i → is_owned_from (slice_index_or after o ejection_output).holder k ≡ is_owned_from (slice_index_or outputs o ejection_output).holder k)
    → AreSound size (slice_set buffers i flits) (slice_set inputs i x) after
AreSound-changed size buffers inputs outputs after i x flits s rings each l within worm owned others =
    let in_rings : i < length buffers = omega arith in
    let in_inputs : i < length inputs = omega arith in
    record {
      owned_below = each-set (λ k input. k < size → is_within size input.phase ≡ true) inputs i x idle_input in_inputs (λ _. within) (λ k n u. s.owned_below k u);
      owners = λ k o u v. each-set (λ j input. j < size → owns input.phase o ≡ is_owned_from (slice_index_or after o ejection_output).holder j) inputs i x idle_input in_inputs
          (λ _. owned o v)
          (λ j n w. s.owners j o w v ∙ sym (others j o v n)) k u;
      worms = each-set (λ k input. k < size → is_worm_of input (slice_index_or (slice_set buffers i flits) k []) ≡ true) inputs i x idle_input in_inputs
          (λ _. rw (get_or-set_same buffers i flits [] in_rings) worm)
          (λ k n u. rw (get_or-set_other buffers i k flits [] n) (s.worms k u));
    }

-- one input channel changes, and no output channel
AreSound-input : (size : ℕ) (buffers : List (List Flit)) (inputs : List Input) (outputs : List Output) (i : ℕ) (x : Input) (flits : List Flit)
    → AreSound size buffers inputs outputs → length buffers ≡ size → length inputs ≡ size → i < size
    → is_within size x.phase ≡ true → is_worm_of x flits ≡ true
    → ((o : ℕ) → owns x.phase o ≡ owns (slice_index_or inputs i idle_input).phase o)
    → AreSound size (slice_set buffers i flits) (slice_set inputs i x) outputs
AreSound-input size buffers inputs outputs i x flits s rings each l within worm owned =
    AreSound-changed size buffers inputs outputs outputs i x flits s rings each l within worm
    (λ o u. owned o ∙ s.owners i o l u) (λ k o u n. refl)

-- one input channel changes, and one output channel, which no other input channel owns
AreSound-turned : (size : ℕ) (buffers : List (List Flit)) (inputs : List Input) (outputs : List Output) (i o : ℕ) (x : Input) (flits : List Flit) (y : Output)
    → AreSound size buffers inputs outputs → length buffers ≡ size → length inputs ≡ size → length outputs ≡ size → i < size → o < size
    → is_within size x.phase ≡ true → is_worm_of x flits ≡ true
    → owns x.phase o ≡ is_owned_from y.holder i
    → ((q : ℕ) → q ≢ o → owns x.phase q ≡ owns (slice_index_or inputs i idle_input).phase q)
    → ((k : ℕ) → k ≢ i → is_owned_from (slice_index_or outputs o ejection_output).holder k ≡ false)
    → ((k : ℕ) → k ≢ i → is_owned_from y.holder k ≡ false)
    → AreSound size (slice_set buffers i flits) (slice_set inputs i x) (slice_set outputs o y)
AreSound-turned size buffers inputs outputs i o x flits y s rings each outs l u within worm owned rest before after =
    let inside : o < length outputs = omega arith in
    AreSound-changed size buffers inputs outputs (slice_set outputs o y) i x flits s rings each l within worm
    (each-set (λ q (output : Output). q < size → owns x.phase q ≡ is_owned_from output.holder i) outputs o y ejection_output inside (λ _. owned) (λ q n v. rest q n ∙ s.owners i q l v))
    (λ k q v n. each-set (λ j (output : Output). is_owned_from output.holder k ≡ is_owned_from (slice_index_or outputs j ejection_output).holder k) outputs o y ejection_output inside
    (after k n ∙ sym (before k n))
    (λ j m. refl) q)

-- one output channel gets another state, which nobody else owns than before
AreSound-output : (size : ℕ) (buffers : List (List Flit)) (inputs : List Input) (outputs : List Output) (o : ℕ) (y : Output)
    → AreSound size buffers inputs outputs → length outputs ≡ size → o < size
    → ((k : ℕ) → is_owned_from y.holder k ≡ is_owned_from (slice_index_or outputs o ejection_output).holder k)
    → AreSound size buffers inputs (slice_set outputs o y)
AreSound-output size buffers inputs outputs o y s each l owned =
    let inside : o < length outputs = omega arith in
    record {
      owned_below = s.owned_below;
      owners = λ i k u v. each-set (λ j (output : Output). j < size → owns (slice_index_or inputs i idle_input).phase j ≡ is_owned_from output.holder i) outputs o y ejection_output inside
          (λ w. s.owners i o u w ∙ sym (owned i)) (λ j n w. s.owners i j u w) k v;
      worms = s.worms;
    }

-- ---- flits of one packet

both_more : (a b c : Bool) → (a && b) ≡ true → (b ≡ true → c ≡ true) → (a && c) ≡ true
both_more true b c e f = f e
both_more false b c e f = e

-- a flit behind flits of its packet, or the first one
pub is_worm-landed : (packet awaits : Bool) (flits : List Flit) (f : Flit) → is_worm packet awaits flits ≡ true → (is_empty flits || awaits) ≡ true
    → is_worm true (is_some (next_of f)) (flits ++ f ∷ []) ≡ true
is_worm-landed packet awaits [] f worm more = at f.last refl
  where
    at : (last : Bool) → f.last ≡ last → is_worm true (is_some (next_of f)) (f ∷ []) ≡ true
    at true e = simp e
    at false e = simp e
is_worm-landed packet false (g ∷ rest) f worm more = absurd (false≢true more)
is_worm-landed true true (g ∷ []) f worm more = at g.last f.last refl refl worm
  where
    at : (before last : Bool) → g.last ≡ before → f.last ≡ last → not g.last ≡ true → is_worm true (is_some (next_of f)) (g ∷ f ∷ []) ≡ true
    at true last d e w = absurd (false≢true (sym (ap not d) ∙ w))
    at false true d e w = simp (d, e)
    at false false d e w = simp (d, e)
is_worm-landed false true (g ∷ []) f worm more = absurd (false≢true worm)
is_worm-landed packet true (g ∷ h ∷ rest) f worm more =
    both_more (not g.last) (is_worm packet true (h ∷ rest)) (is_worm true (is_some (next_of f)) (h ∷ (rest ++ f ∷ []))) worm (λ w. is_worm-landed packet true (h ∷ rest) f w refl)

-- behind a tail there is no flit
pub is_worm-tail : (packet awaits : Bool) (f : Flit) (rest : List Flit) → is_worm packet awaits (f ∷ rest) ≡ true → f.last ≡ true → (rest ≡ []) × (awaits ≡ false)
is_worm-tail packet awaits f [] worm last = (refl, at packet awaits (sym (ap (λ b. packet && (if awaits then not b else b)) last) ∙ worm))
  where
    at : (packet awaits : Bool) → (packet && (if awaits then not true else true)) ≡ true → awaits ≡ false
    at true true e = sym e
    at true false e = refl
    at false awaits e = absurd (false≢true e)
is_worm-tail packet awaits f (g ∷ rest) worm last = absurd (false≢true (sym (ap (λ b. not b && is_worm packet awaits (g ∷ rest)) last) ∙ worm))

-- the flits behind one that is no tail
pub is_worm-rest : (packet awaits : Bool) (f : Flit) (rest : List Flit) → is_worm packet awaits (f ∷ rest) ≡ true → is_worm packet awaits rest ≡ true
is_worm-rest packet awaits f [] worm = refl
is_worm-rest packet awaits f (g ∷ rest) worm = (and_parts (not f.last) (is_worm packet awaits (g ∷ rest)) worm).1

-- where there is a flit there is a packet
pub is_worm-packet : (packet awaits : Bool) (f : Flit) (rest : List Flit) → is_worm packet awaits (f ∷ rest) ≡ true → packet ≡ true
is_worm-packet true awaits f rest worm = refl
is_worm-packet false awaits f [] worm = worm
is_worm-packet false awaits f (g ∷ rest) worm = is_worm-packet false awaits g rest (and_parts (not f.last) (is_worm false awaits (g ∷ rest)) worm).1

-- ---- what happens to one channel

-- an element that was read is the one at that index whatever the default
pub read-at : {X : Type 0} (xs : List X) (i : ℕ) (x d : X) → i < length xs → x ≡ slice_index_or xs i x → x ≡ slice_index_or xs i d
read-at xs i x d l e = e ∙ get_or_default xs i x d l

-- an input channel that fits a flit is empty or awaits one
pub fits-next : (g : Routes) (router port vc depth : ℕ) (flits : List Flit) (input : Input) (f : Flit) → true ≡ fits g router port vc depth flits input f → (is_empty flits || is_some input.awaited) ≡ true
fits-next g router port vc depth flits input f e = at input.phase input.awaited (and_parts (nat_lt (length flits) depth) (is_expected g router port vc flits input f input.phase) (sym e)).1
  where
    first_of_two : (a b : Bool) → (a && b) ≡ true → a ≡ true
    first_of_two true b w = refl
    first_of_two false b w = w

    either : (a b : Bool) → b ≡ true → (a || b) ≡ true
    either true b w = refl
    either false b w = w

    at : (phase : InputState) (awaited : Option Awaited) → is_expected g router port vc flits (record input { awaited = awaited }) f phase ≡ true → (is_empty flits || is_some awaited) ≡ true
    at Idle awaited w = ap (λ b. b || is_some awaited) (first_of_two (is_empty flits) (may_begin g router port vc f) w)
    at (Waiting set) None w = absurd (false≢true w)
    at (Waiting set) (Some a) w = either (is_empty flits) true refl
    at (Active o) None w = absurd (false≢true w)
    at (Active o) (Some a) w = either (is_empty flits) true refl

-- a flit lands
pub AreSound-landed : (size : ℕ) (before after : Buffers) (inputs : List Input) (outputs : List Output) (i : ℕ) (old new : Input) (f : Flit)
    → AreSound size before.rings inputs outputs → length before.rings ≡ size → length inputs ≡ size → i < size
    → old ≡ slice_index_or inputs i idle_input → new ≡ input_after_land old f → after ≡ buffers_after_push before i f
    → (is_empty (buffer_at before i) || is_some old.awaited) ≡ true
    → AreSound size after.rings (slice_set inputs i new) outputs
AreSound-landed size before after inputs outputs i old new f s rings each l at is pushes more =
    let flits : List Flit = buffer_at before i in
    let input : Input = slice_index_or inputs i idle_input in
    rw (pushes, is, at)
    (AreSound-input size before.rings inputs outputs i (input_after_land input f) (flits ++ f ∷ []) s rings each l
    (s.owned_below i l)
    (is_worm-landed (is_some input.packet) (is_some input.awaited) flits f (s.worms i l) (ap (λ (x : Input). is_empty flits || is_some x.awaited) (sym at) ∙ more))
    (λ o. refl))

-- a flit lands, or does not fit
pub AreSound-taken : (size : ℕ) (before after : Buffers) (inputs : List Input) (outputs : List Output) (i : ℕ) (old new : Input) (f : Flit) (fits : Bool)
    → AreSound size before.rings inputs outputs → length before.rings ≡ size → length inputs ≡ size → i < size
    → old ≡ slice_index_or inputs i idle_input → new ≡ (if fits then input_after_land old f else old) → after ≡ (if fits then buffers_after_push before i f else before)
    → (fits ≡ true → (is_empty (buffer_at before i) || is_some old.awaited) ≡ true)
    → AreSound size after.rings (slice_set inputs i new) outputs
AreSound-taken size before after inputs outputs i old new f true s rings each l at is pushes more = AreSound-landed size before after inputs outputs i old new f s rings each l at is pushes (more refl)
AreSound-taken size before after inputs outputs i old new f false s rings each l at is pushes more =
    rw (pushes, is, at) (subst (λ xs. AreSound size before.rings xs outputs) (sym (set-get_or inputs i idle_input)) s)

pub taken-bank : (before after : Buffers) (i : ℕ) (f : Flit) (fits : Bool) → after ≡ (if fits then buffers_after_push before i f else before)
    → (length after.rings ≡ length before.rings) × (after.capacity ≡ before.capacity)
taken-bank before after i f true pushes = (ap (λ (b : Buffers). length b.rings) pushes ∙ length-set before.rings i _, ap (λ (b : Buffers). b.capacity) pushes)
taken-bank before after i f false pushes = (ap (λ (b : Buffers). length b.rings) pushes, ap (λ (b : Buffers). b.capacity) pushes)

pub taken-states : (s : ChannelStates) (after : Buffers) (i : ℕ) (old new : Input) (f : Flit) (fits result : Bool) → result ≡ fits → old ≡ slice_index_or s.inputs i idle_input
    → new ≡ (if fits then input_after_land old f else old) → after ≡ (if fits then buffers_after_push s.bank i f else s.bank)
    → record s { bank = after; inputs = slice_set s.inputs i new } ≡ (if result then states_after_land i f s else s)
taken-states s after i old new f true result same at is pushes =
    ap (λ (b : Buffers). record s { bank = b; inputs = slice_set s.inputs i new }) pushes
    ∙ ap (λ (x : Input). record s { bank = buffers_after_push s.bank i f; inputs = slice_set s.inputs i x }) (is ∙ ap (λ (x : Input). input_after_land x f) at)
    ∙ ap (λ b. if b then states_after_land i f s else s) (sym same)
taken-states s after i old new f false result same at is pushes =
    ap (λ (b : Buffers). record s { bank = b; inputs = slice_set s.inputs i new }) pushes
    ∙ ap (λ (xs : List Input). record s { inputs = xs }) (ap (slice_set s.inputs i) (is ∙ at) ∙ set-get_or s.inputs i idle_input)
    ∙ ap (λ b. if b then states_after_land i f s else s) (sym same)

-- the packet of an idle channel that holds a flit
pub packet-there : (size : ℕ) (bank : Buffers) (inputs : List Input) (outputs : List Output) (i : ℕ) (old : Input)
    → AreSound size bank.rings inputs outputs → i < size → old ≡ slice_index_or inputs i idle_input → 0 < length (buffer_at bank i)
    → is_some old.packet ≡ true
packet-there size bank inputs outputs i old s l at some =
    rw at (there (buffer_at bank i) (s.worms i l) some)
  where
    there : (flits : List Flit) → is_worm_of (slice_index_or inputs i idle_input) flits ≡ true → 0 < length flits → is_some (slice_index_or inputs i idle_input).packet ≡ true
    there [] w u = absurd (omega arith)
    there (f ∷ flits) w u = is_worm-packet (is_some (slice_index_or inputs i idle_input).packet) (is_some (slice_index_or inputs i idle_input).awaited) f flits w

-- the head of an idle channel is routed
pub AreSound-routed : (size : ℕ) (bank : Buffers) (inputs : List Input) (outputs : List Output) (i set : ℕ) (old new : Input)
    → AreSound size bank.rings inputs outputs → length bank.rings ≡ size → length inputs ≡ size → i < size
    → old ≡ slice_index_or inputs i idle_input → new ≡ input_after_route old set → (slice_index_or inputs i idle_input).phase ≡ Idle
    → AreSound size bank.rings (slice_set inputs i new) outputs
AreSound-routed size bank inputs outputs i set old new s rings each l at is was =
    let input : Input = slice_index_or inputs i idle_input in
    rw (is, at) (subst (λ (rs : List (List Flit)). AreSound size rs (slice_set inputs i (input_after_route input set)) outputs) (set-get_or bank.rings i [])
    (AreSound-input size bank.rings inputs outputs i (input_after_route input set) (buffer_at bank i) s rings each l
    refl (s.worms i l) (λ o. ap (λ p. owns p o) (sym was))))

is_waiting-nothing : (phase : InputState) → is_waiting phase ≡ true → (o : ℕ) → owns phase o ≡ false
is_waiting-nothing Idle w o = absurd (false≢true w)
is_waiting-nothing (Waiting set) w o = refl
is_waiting-nothing (Active q) w o = absurd (false≢true w)

is_free-nobody : (holder : OutputState) → is_free holder ≡ true → (k : ℕ) → is_owned_from holder k ≡ false
is_free-nobody Free e k = refl
is_free-nobody (Owned j p) e k = absurd (false≢true e)
is_free-nobody Draining e k = refl

-- a count of credits that is not 0
pub has_credit-count : (credit : Option ℕ) → not (option_eq nat_eq credit (Some 0)) ≡ has_credit_at credit
has_credit-count None = refl
has_credit-count (Some zero) = refl
has_credit-count (Some (suc n)) = ap not (ne_eqb (suc n) 0 (λ e. omega arith)) ∙ sym (lt-ltb 0 (suc n) (omega arith))

-- a waiting channel is granted a free output channel
pub AreSound-granted : (size : ℕ) (bank : Buffers) (inputs : List Input) (outputs : List Output) (i o p : ℕ) (old new : Input) (out after : Output)
    → AreSound size bank.rings inputs outputs → length bank.rings ≡ size → length inputs ≡ size → length outputs ≡ size → i < size → o < size
    → old ≡ slice_index_or inputs i idle_input → new ≡ input_after_grant old o → is_waiting (slice_index_or inputs i idle_input).phase ≡ true
    → after ≡ output_after_hold out i p → is_free (slice_index_or outputs o ejection_output).holder ≡ true
    → AreSound size bank.rings (slice_set inputs i new) (slice_set outputs o after)
AreSound-granted size bank inputs outputs i o p old new out after s rings each outs l u at is waits holds free =
    let input : Input = slice_index_or inputs i idle_input in
    let holder : after.holder ≡ Owned i p = ap (λ (x : Output). x.holder) holds in
    rw (is, at) (subst (λ (rs : List (List Flit)). AreSound size rs (slice_set inputs i (input_after_grant input o)) (slice_set outputs o after)) (set-get_or bank.rings i [])
    (AreSound-turned size bank.rings inputs outputs i o (input_after_grant input o) (buffer_at bank i) after s rings each outs l u
    (lt-ltb o size u)
    (s.worms i l)
    (eq-eqb o o refl ∙ sym (ap (λ h. is_owned_from h i) holder ∙ eq-eqb i i refl))
    (λ q n. ne_eqb o q (λ e. n (sym e)) ∙ sym (is_waiting-nothing input.phase waits q))
    (λ k n. is_free-nobody (slice_index_or outputs o ejection_output).holder free k)
    (λ k n. ap (λ h. is_owned_from h k) holder ∙ ne_eqb i k (λ e. n (sym e)))))

-- a credit leaves the owner of an output channel
credited-owner : (output : Output) (k : ℕ) → is_owned_from (output_after_credit output).holder k ≡ is_owned_from output.holder k
credited-owner output k = at output.credit
  where
    freed : (b : Bool) → is_owned_from (if b then Free else Draining) k ≡ false
    freed true = refl
    freed false = refl

    held_at : (depth count : ℕ) (holder : OutputState) → is_owned_from (holder_at depth count holder) k ≡ is_owned_from holder k
    held_at depth count Free = refl
    held_at depth count (Owned j p) = refl
    held_at depth count Draining = freed (nat_eq count depth)

    at : (credit : Option ℕ) → is_owned_from (output_with_credit output credit).holder k ≡ is_owned_from output.holder k
    at None = refl
    at (Some n) = held_at output.depth (n + 1) output.holder

-- an output channel stays as it was
pub AreSound-same : (size : ℕ) (buffers : List (List Flit)) (inputs : List Input) (outputs : List Output) (o : ℕ) (y : Output)
    → AreSound size buffers inputs outputs → y ≡ slice_index_or outputs o ejection_output → AreSound size buffers inputs (slice_set outputs o y)
AreSound-same size buffers inputs outputs o y s same = subst (AreSound size buffers inputs) (sym (ap (slice_set outputs o) same ∙ set-get_or outputs o ejection_output)) s

-- a credit comes to an output channel, or does not fit
pub AreSound-credited : (size : ℕ) (buffers : List (List Flit)) (inputs : List Input) (outputs : List Output) (o : ℕ) (out after : Output) (fits : Bool)
    → AreSound size buffers inputs outputs → length outputs ≡ size → o < size
    → out ≡ slice_index_or outputs o ejection_output → after ≡ (if fits then output_after_credit out else out)
    → AreSound size buffers inputs (slice_set outputs o after)
AreSound-credited size buffers inputs outputs o out after true s outs l there is =
    AreSound-output size buffers inputs outputs o after s outs l
    (λ k. ap (λ (x : Output). is_owned_from x.holder k) is ∙ credited-owner out k ∙ ap (λ (x : Output). is_owned_from x.holder k) there)
AreSound-credited size buffers inputs outputs o out after false s outs l there is = AreSound-same size buffers inputs outputs o after s (is ∙ there)

pub credited-states : (s : ChannelStates) (o : ℕ) (out after : Output) (fits result : Bool) → result ≡ fits → out ≡ slice_index_or s.outputs o ejection_output
    → after ≡ (if fits then output_after_credit out else out) → record s { outputs = slice_set s.outputs o after } ≡ (if result then states_after_credit o s else s)
credited-states s o out after true result same there is =
    ap (λ (x : Output). record s { outputs = slice_set s.outputs o x }) (is ∙ ap output_after_credit there) ∙ ap (λ b. if b then states_after_credit o s else s) (sym same)
credited-states s o out after false result same there is =
    ap (λ (xs : List Output). record s { outputs = xs }) (ap (slice_set s.outputs o) (is ∙ there) ∙ set-get_or s.outputs o ejection_output)
    ∙ ap (λ b. if b then states_after_credit o s else s) (sym same)

-- the holder of an output channel that is owned from one input channel
owned-is : (holder : OutputState) (i : ℕ) → is_owned_from holder i ≡ true → (p : ℕ) × (holder ≡ Owned i p)
owned-is Free i e = absurd (false≢true e)
owned-is (Owned j p) i e = (p, ap (λ k. Owned k p) (eqb-true j i e))
owned-is Draining i e = absurd (false≢true e)

spent-kept : (output : Output) → (output_after_spend false output).holder ≡ output.holder
spent-kept output = at output.credit
  where
    at : (credit : Option ℕ) → (output_without_credit false output credit).holder ≡ output.holder
    at None = refl
    at (Some n) = refl

spent-gone : (output : Output) (k : ℕ) → is_owned_from (output_after_spend true output).holder k ≡ false
spent-gone output k = at output.credit
  where
    at : (credit : Option ℕ) → is_owned_from (output_without_credit true output credit).holder k ≡ false
    at None = refl
    at (Some n) = refl

-- the output channel that an active input channel owns
pub owner-there : (size : ℕ) (bank : Buffers) (inputs : List Input) (outputs : List Output) (i o : ℕ)
    → AreSound size bank.rings inputs outputs → i < size → o < size → (slice_index_or inputs i idle_input).phase ≡ Active o
    → is_owned_from (slice_index_or outputs o ejection_output).holder i ≡ true
owner-there size bank inputs outputs i o s l u phase = sym (s.owners i o l u) ∙ ap (λ p. owns p o) phase ∙ eq-eqb o o refl

-- a count of flits that is not 0
pub filled-count : {X : Type 0} (xs : List X) → nat_lt 0 (length xs) ≡ not (is_empty xs)
filled-count [] = refl
filled-count (x ∷ xs) = lt-ltb 0 (length (x ∷ xs)) (omega arith)

-- an output channel that is owned from some input channel is owned
pub is_owned-from : (holder : OutputState) (i : ℕ) → is_owned_from holder i ≡ true → is_owned holder ≡ true
is_owned-from Free i e = e
is_owned-from (Owned j p) i e = refl
is_owned-from Draining i e = e

-- the first flit of an active channel leaves
pub AreSound-sent : (size : ℕ) (before after : Buffers) (inputs : List Input) (outputs : List Output) (i o : ℕ) (old new : Input) (out left : Output) (f : Flit)
    → AreSound size before.rings inputs outputs → length before.rings ≡ size → length inputs ≡ size → length outputs ≡ size → i < size → o < size
    → buffer_at before i ≡ f ∷ buffer_at after i → after ≡ buffers_after_pop before i
    → old ≡ slice_index_or inputs i idle_input → new ≡ input_after_send old f → (slice_index_or inputs i idle_input).phase ≡ Active o
    → out ≡ slice_index_or outputs o ejection_output → left ≡ output_after_spend f.last out
    → AreSound size after.rings (slice_set inputs i new) (slice_set outputs o left)
AreSound-sent size before after inputs outputs i o old new out left f s rings each outs l u first pops at is phase there spends =
    let input : Input = slice_index_or inputs i idle_input in
    let output : Output = slice_index_or outputs o ejection_output in
    let flits : List Flit = buffer_at after i in
    let leaves : left ≡ output_after_spend f.last output = spends ∙ ap (output_after_spend f.last) there in
    let worm : is_worm_of input (f ∷ flits) ≡ true = sym (ap (is_worm_of input) first) ∙ s.worms i l in
    let own : (p : ℕ) × (output.holder ≡ Owned i p) = owned-is output.holder i (owner-there size before inputs outputs i o s l u phase) in
    let alone : (k : ℕ) → k ≢ i → is_owned_from output.holder k ≡ false = λ k n. ap (λ h. is_owned_from h k) own.1 ∙ ne_eqb i k (λ e. n (sym e)) in
    rw (pops, is, at, ap (drop 1) first)
    (AreSound-turned size before.rings inputs outputs i o (input_after_send input f) flits left s rings each outs l u
    (within_then f.last (s.owned_below i l))
    (worm_then f.last refl worm)
    (owner_then f.last (s.owners i o l u) ∙ ap (λ (x : Output). is_owned_from x.holder i) (sym leaves))
    (λ q n. other_then f.last q (ne_eqb o q (λ e. n (sym e))))
    alone
    (λ k n. ap (λ (x : Output). is_owned_from x.holder k) leaves ∙ left_then f.last k (alone k n)))
  where
    within_then : (last : Bool) → is_within size (slice_index_or inputs i idle_input).phase ≡ true → is_within size (if last then idle_input else slice_index_or inputs i idle_input).phase ≡ true
    within_then true w = refl
    within_then false w = w

    worm_then : (last : Bool) → f.last ≡ last → is_worm_of (slice_index_or inputs i idle_input) (f ∷ buffer_at after i) ≡ true → is_worm_of (if last then idle_input else slice_index_or inputs i idle_input) (buffer_at after i) ≡ true
    worm_then true e w = ap (is_worm false false) (is_worm-tail (is_some (slice_index_or inputs i idle_input).packet) (is_some (slice_index_or inputs i idle_input).awaited) f (buffer_at after i) w e).0
    worm_then false e w = is_worm-rest (is_some (slice_index_or inputs i idle_input).packet) (is_some (slice_index_or inputs i idle_input).awaited) f (buffer_at after i) w

    owner_then : (last : Bool) → owns (slice_index_or inputs i idle_input).phase o ≡ is_owned_from (slice_index_or outputs o ejection_output).holder i
        → owns (if last then idle_input else slice_index_or inputs i idle_input).phase o ≡ is_owned_from (output_after_spend last (slice_index_or outputs o ejection_output)).holder i
    owner_then true w = sym (spent-gone (slice_index_or outputs o ejection_output) i)
    owner_then false w = w ∙ ap (λ h. is_owned_from h i) (sym (spent-kept (slice_index_or outputs o ejection_output)))

    other_then : (last : Bool) (k : ℕ) → nat_eq o k ≡ false → owns (if last then idle_input else slice_index_or inputs i idle_input).phase k ≡ owns (slice_index_or inputs i idle_input).phase k
    other_then true k e = sym (ap (λ p. owns p k) phase ∙ e)
    other_then false k e = refl

    left_then : (last : Bool) (k : ℕ) → is_owned_from (slice_index_or outputs o ejection_output).holder k ≡ false → is_owned_from (output_after_spend last (slice_index_or outputs o ejection_output)).holder k ≡ false
    left_then true k e = spent-gone (slice_index_or outputs o ejection_output) k
    left_then false k e = ap (λ h. is_owned_from h k) (spent-kept (slice_index_or outputs o ejection_output)) ∙ e

-- once a flit has left, each channel that awaits one still does, since nothing
-- is awaited behind a tail
pub KeepsAwaiting-sent : (size : ℕ) (before after : Buffers) (inputs : List Input) (outputs : List Output) (i : ℕ) (old new : Input) (f : Flit)
    → AreSound size before.rings inputs outputs → length inputs ≡ size → i < size
    → buffer_at before i ≡ f ∷ buffer_at after i → old ≡ slice_index_or inputs i idle_input → new ≡ input_after_send old f
    → KeepsAwaiting inputs (slice_set inputs i new)
KeepsAwaiting-sent size before after inputs outputs i old new f s each l first at is =
    each-set (λ k (x : Input). is_awaiting inputs k ≡ true → is_some x.awaited ≡ true) inputs i new idle_input (omega arith)
    (λ awaits. ap (λ (x : Input). is_some x.awaited) (is ∙ ap (λ (x : Input). input_after_send x f) at)
    ∙ awaited_then f.last refl (sym (ap (is_worm_of (slice_index_or inputs i idle_input)) first) ∙ s.worms i l) awaits)
    (λ k n awaits. awaits)
  where
    awaited_then : (last : Bool) → f.last ≡ last → is_worm_of (slice_index_or inputs i idle_input) (f ∷ buffer_at after i) ≡ true → is_awaiting inputs i ≡ true
        → is_some (if last then idle_input else slice_index_or inputs i idle_input).awaited ≡ true
    awaited_then true e w awaits = absurd (false≢true (sym (is_worm-tail (is_some (slice_index_or inputs i idle_input).packet) (is_some (slice_index_or inputs i idle_input).awaited) f (buffer_at after i) w e).1 ∙ awaits))
    awaited_then false e w awaits = awaits

-- of two tests one holds
pub next-either : (a b : Bool) → (a ≡ true) ⊎ (b ≡ true) → (a || b) ≡ true
next-either true b e = refl
next-either false b (inl e) = absurd (false≢true e)
next-either false b (inr e) = e

-- ---- new channels

-- channels of which each is idle and empty
pub AreSound-opening : (size links depth : ℕ) (bank : Buffers) (inputs : List Input) (outputs : List Output)
    → links ≤ size → bank ≡ empty_buffers size depth → inputs ≡ replicate size idle_input
    → outputs ≡ replicate links (link_output depth) ++ replicate (size - links) ejection_output
    → AreSound size bank.rings inputs outputs
AreSound-opening size links depth bank inputs outputs few rings ins outs =
    let empty : (i : ℕ) → i < size → buffer_at bank i ≡ [] = λ i l. ap (λ (b : Buffers). buffer_at b i) rings ∙ get_or-replicate size i [] [] l in
    let input : (i : ℕ) → i < size → slice_index_or inputs i idle_input ≡ idle_input = λ i l. ap (λ (xs : List Input). slice_index_or xs i idle_input) ins ∙ get_or-replicate size i idle_input idle_input l in
    let whole : length outputs ≡ size = ap length outs ∙ length-append (replicate links (link_output depth)) (replicate (size - links) ejection_output)
    ∙ (let a : length (replicate links (link_output depth)) ≡ links = length-replicate links (link_output depth) in
    let b : length (replicate (size - links) ejection_output) ≡ size - links = length-replicate (size - links) ejection_output in omega arith) in
    let all : All (λ (x : Output). x.holder ≡ Free) outputs = rw outs (All-append (λ (x : Output). x.holder ≡ Free) (replicate links (link_output depth)) (replicate (size - links) ejection_output)
    (All-replicate (λ (x : Output). x.holder ≡ Free) links (link_output depth) refl)
    (All-replicate (λ (x : Output). x.holder ≡ Free) (size - links) ejection_output refl)) in
    let holder : (o : ℕ) → o < size → (slice_index_or outputs o ejection_output).holder ≡ Free = λ o l. all o ejection_output (omega arith) in
    record {
      owned_below = λ i l. ap (λ (x : Input). is_within size x.phase) (input i l);
      owners = λ i o l u. ap (λ (x : Input). owns x.phase o) (input i l) ∙ sym (ap (λ h. is_owned_from h i) (holder o u));
      worms = λ i l. ap (λ (x : Input). is_worm_of x (buffer_at bank i)) (input i l) ∙ ap (is_worm_of idle_input) (empty i l);
    }
