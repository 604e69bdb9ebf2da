-- The source injects a flit.
use Rattle.std.proofs.Common.{◌≡◌, ℕ, ◌+◌, ◌≤◌, Bool, true, false, List, [], ◌∷◌, length, drop, Option, Some, None, refl, ap, sym, ◌∙◌}
use Rattle.std.specs.Prelude.{if◌then◌else◌, is_none, nat_lt, nat_le, slice_get}
use Rattle.std.proofs.lemmas.List.{drop_all}
use Rattle.noc_packet.specs.declared.packet.Packet.{Packet}
use Rattle.noc_packet.specs.declared.packet.Flit.{Flit}
use Rattle.noc_packet.specs.Packet.{flit_at}
use Rattle.noc_router.specs.declared.channels.Channels.{Channels}
use Rattle.noc_router.specs.declared.source.Source.{Source}
use Rattle.noc_router.specs.declared.router.Router.TheInside.{Inside}
use Rattle.noc_router.specs.Inside.{view_of, queue_of, sending_of}
use Rattle.noc_router.specs.Injection.{index_in, vc_from, vacant_vc, next_vc}
use Rattle.noc_router.specs.Queue.{queue_from, sending_from, next_flit_of, is_next_last, is_due_by}
use Rattle.noc_router.specs.Parts.{ChannelStates, states_after_land, states_in}
use Rattle.noc_view.specs.View.{View, begun_on, view_buffer, local_channel, with_injected, view_after_inject_from, view_after_inject}

-- ---- by the view

-- nothing is left at the source
pub injected-nothing : (n : ℕ) (v : View) → v.queue ≡ [] → view_after_inject n v ≡ record v { given = n }
unfolding view_after_inject
injected-nothing n v e = ap (λ queue. view_after_inject_from n queue v.sending (record v { given = n })) e

-- the front of the queue, with its next index, goes to this channel
abbrev goes_to : Option ℕ → ℕ → ℕ → Packet → List (ℕ × Packet) → View → View
goes_to None index packet p rest v = v
goes_to (Some vc) index packet p rest v = with_injected vc index packet p rest v

went : (n packet : ℕ) (p : Packet) (rest : List (ℕ × Packet)) (sending : Option (ℕ × ℕ)) (v : View)
    → view_after_inject_from n ((packet, p) ∷ rest) sending v ≡ goes_to (vc_from v (nat_le p.due n) sending) (index_in sending) packet p rest v
went n packet p rest (Some (vc, index)) v = at (nat_lt (length (view_buffer v (local_channel v.site vc))) v.site.depth)
  where
    at : (b : Bool) → (if b then with_injected vc index packet p rest v else v) ≡ goes_to (if b then Some vc else None) index packet p rest v
    at true = refl
    at false = refl
went n packet p rest None v = at (nat_le p.due n)
  where
    begins : (vc : Option ℕ) → begun_on vc packet p rest v ≡ goes_to vc 0 packet p rest v
    begins None = refl
    begins (Some vc) = refl

    at : (b : Bool) → (if b then begun_on (vacant_vc v) packet p rest v else v) ≡ goes_to (if b then vacant_vc v else None) 0 packet p rest v
    at true = begins (vacant_vc v)
    at false = refl

-- the front of the queue goes where it can
pub injected-front : (n packet : ℕ) (p : Packet) (rest : List (ℕ × Packet)) (v : View) (vc : Option ℕ) → v.queue ≡ (packet, p) ∷ rest
    → next_vc (record v { given = n }) ≡ vc → view_after_inject n v ≡ goes_to vc (index_in v.sending) packet p rest (record v { given = n })
unfolding view_after_inject
injected-front n packet p rest v vc queue e =
    ap (λ q. view_after_inject_from n q v.sending (record v { given = n })) queue
    ∙ went n packet p rest v.sending (record v { given = n })
    ∙ ap (λ o. goes_to o (index_in v.sending) packet p rest (record v { given = n }))
    (ap (λ (q : List (ℕ × Packet)). vc_from (record v { given = n }) (is_due_by (slice_get q 0) n) v.sending) (sym queue) ∙ e)

-- where no local channel can take a flit, none goes
pub injected-stays : (n : ℕ) (v : View) → next_vc (record v { given = n }) ≡ None → view_after_inject n v ≡ record v { given = n }
injected-stays n v none = at v.queue refl
  where
    at : (queue : List (ℕ × Packet)) → v.queue ≡ queue → view_after_inject n v ≡ record v { given = n }
    at [] whole = injected-nothing n v whole
    at ((packet, p) ∷ rest) whole = injected-front n packet p rest v None whole none

-- ---- by the fields of a router

-- a source with nothing in front has no packet left
pub queue-nothing : (front : Option (ℕ × Packet)) (index begun : ℕ) (packets : List (ℕ × Packet)) → (is_none front ≡ true → length packets ≤ begun) → next_flit_of front index ≡ None
    → queue_from front begun packets ≡ []
queue-nothing None index begun packets all e = drop_all begun packets (all refl)
queue-nothing (Some start) index begun packets all e = absurd (cc)

index-is : (channel : Option ℕ) (index : ℕ) → (is_none channel ≡ true → index ≡ 0) → index_in (sending_from channel index) ≡ index
index-is None index zero_there = sym (zero_there refl)
index-is (Some vc) index zero_there = refl

-- where no local channel can take a flit, none goes
pub stays-view : (r : Inside) (n : ℕ) → next_vc (view_of (record r { cycle = n })) ≡ None → view_of (record r { cycle = n }) ≡ view_after_inject n (view_of r)
stays-view r n none = sym (injected-stays n (view_of r) none)

-- a flit goes to a local channel
pub goes-view : (r : Inside) (n vc i : ℕ) (flit : Flit) (channels : Channels) (source : Source)
    → (is_none r.source.vc ≡ true → r.source.index ≡ 0) → next_flit_of r.source.front r.source.index ≡ Some flit
    → next_vc (view_of (record r { cycle = n })) ≡ Some vc → i ≡ local_channel (view_of r).site vc
    → states_in channels ≡ states_after_land i flit (states_in r.channels)
    → queue_of source ≡ (if is_next_last r.source.front r.source.index then drop 1 (queue_of r.source) else queue_of r.source)
    → sending_of source ≡ (if is_next_last r.source.front r.source.index then None else Some (vc, r.source.index + 1))
    → view_of (record r { cycle = n; had_event = true; source = source; channels = channels }) ≡ view_after_inject n (view_of r)
goes-view r n vc i flit channels source at_head some next at states queue sending = by r.source.front refl some
  where
    by : (front : Option (ℕ × Packet)) → r.source.front ≡ front → next_flit_of front r.source.index ≡ Some flit
        → view_of (record r { cycle = n; had_event = true; source = source; channels = channels }) ≡ view_after_inject n (view_of r)
    by None there e = absurd (cc)
    by (Some (packet, p)) there e =
        let f : Flit = flit_at p packet r.source.index in
        let here : ℕ = local_channel (view_of r).site vc in
        let rest : List (ℕ × Packet) = drop r.source.begun r.source.packets.items in
        let v : View = record (view_of r) { given = n } in
        let is : flit ≡ f = cc in
        let whole : queue_of r.source ≡ (packet, p) ∷ rest = ap (λ front. queue_from front r.source.begun r.source.packets.items) there in
        let states_are : states_in channels ≡ states_after_land here f (states_in r.channels) =
        states ∙ ap (λ k. states_after_land k flit (states_in r.channels)) at ∙ ap (λ x. states_after_land here x (states_in r.channels)) is in
        let queue_is : queue_of source ≡ (if f.last then rest else queue_of r.source) =
        queue ∙ ap (λ front. if is_next_last front r.source.index then drop 1 (queue_of r.source) else queue_of r.source) there
        ∙ ap (λ xs. if f.last then drop 1 xs else queue_of r.source) whole in
        let sending_is : sending_of source ≡ (if f.last then None else Some (vc, r.source.index + 1)) =
        sending ∙ ap (λ front. if is_next_last front r.source.index then None else Some (vc, r.source.index + 1)) there in
        let view_is : view_of (record r { cycle = n; had_event = true; source = source; channels = channels }) ≡ with_injected vc r.source.index packet p rest v =
        rw (ap (λ (s : ChannelStates). s.bank) states_are, ap (λ (s : ChannelStates). s.inputs) states_are, ap (λ (s : ChannelStates). s.outputs) states_are, queue_is, sending_is) in
        view_is
        ∙ ap (λ k. with_injected vc k packet p rest v) (sym (index-is r.source.vc r.source.index at_head))
        ∙ sym (injected-front n packet p rest (view_of r) (Some vc) whole next)
