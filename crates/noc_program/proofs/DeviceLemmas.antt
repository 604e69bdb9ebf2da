-- How an answer ends that goes out through a buffer, and what the device then holds.
use Rattle.std.proofs.Common.{◌≡◌, ◌∙◌, ℕ, ◌+◌, ◌-◌, ◌++◌, Bool, false, List, [], ◌∷◌, Option, Some, None, Result, Ok, Err, ap, ap₂, arith, length, refl, subst, sym}
use Rattle.std.specs.Prelude.{IsErr, drop, take}
use Rattle.std.specs.Io.KnownBytes.{Appends, Keeps, append_known}
use Rattle.std.proofs.lemmas.List.{append_assoc, append-nil, take-append-drop}
use Rattle.std.proofs.Math.Seq.{take-append-add, take-append_seam}
use Rattle.noc_files.specs.Writing.{Wrote}
use Rattle.noc_requests.specs.Ending.{Ends, at_fault, cut_off, in_full, is_late, unstarted}
use Rattle.noc_faults.specs.declared.fault.Fault.{Fault}
use Rattle.noc_faults.specs.declared.fault.Fault.TheVariants as fault
use Rattle.noc_requests.specs.declared.request.Request.{Request}
use Rattle.noc_faults.specs.declared.status.Status.{Status}
use Rattle.noc_requests.specs.Answer.{Asks, FirstFault}
use Rattle.noc_program.specs.Counted.{with_start}
use Rattle.noc_program.specs.Ending.{EndsAs, IsOnDevice}

-- what a device has of what was put, by what the counting writer above it shows
module _ (xs ys ws : List ℕ) (taken : ℕ) (sent buffer : List ℕ) (appends : Appends (append_known (with_start 0 (Some xs)) []) (Some ws) sent)
    (keeps : Keeps (Some ws) (append_known (with_start taken (Some ys)) buffer)) where
  alike : (length ys - taken) ∷ (taken - length ys) ∷ (ys ++ buffer) ≡ (length xs - 0) ∷ (0 - length xs) ∷ ((xs ++ []) ++ sent)
  alike = keeps ∙ appends

  bytes_are : ys ++ buffer ≡ xs ++ sent
  bytes_are = ap (drop 2) alike ∙ ap (λ zs. zs ++ sent) (append-nil xs)

  count_is : length ys ≡ length xs + taken
  count_is =
      let more : length ys - taken ≡ length xs - 0 = cc alike in
      let fewer : taken - length ys ≡ 0 - length xs = cc alike in
      omega (arith, more, fewer)

-- what was put is on the device, where the buffer is empty
whole : (old new through : Option (List ℕ)) (taken : ℕ) (text buffer : List ℕ) → Appends (append_known (with_start 0 old) []) through text
    → Keeps through (append_known (with_start taken new) buffer) → buffer ≡ [] → Appends old new text
whole None new through taken text buffer appends keeps empty = tt
whole (Some xs) None None taken text buffer appends keeps empty = absurd appends
whole (Some xs) None (Some ws) taken text buffer appends keeps empty = absurd keeps
whole (Some xs) (Some ys) None taken text buffer appends keeps empty = absurd appends
whole (Some xs) (Some ys) (Some ws) taken text buffer appends keeps empty =
    sym (append-nil ys) ∙ ap (λ rest. ys ++ rest) (sym empty) ∙ bytes_are xs ys ws taken text buffer appends keeps

-- the bytes that are counted are on the device, where some may still be in the buffer and more was
-- to follow
front : (old new through : Option (List ℕ)) (taken : ℕ) (sent more text buffer : List ℕ) → sent ++ more ≡ text
    → Appends (append_known (with_start 0 old) []) through sent → Keeps through (append_known (with_start taken new) buffer) → Appends old new (take taken text)
front None new through taken sent more text buffer parts appends keeps = tt
front (Some xs) None None taken sent more text buffer parts appends keeps = absurd appends
front (Some xs) None (Some ws) taken sent more text buffer parts appends keeps = absurd keeps
front (Some xs) (Some ys) None taken sent more text buffer parts appends keeps = absurd appends
front (Some xs) (Some ys) (Some ws) taken sent more text buffer parts appends keeps =
    let text_is : ys ++ (buffer ++ more) ≡ xs ++ text = sym (append_assoc ys buffer more) ∙ ap (λ zs. zs ++ more) (bytes_are xs ys ws taken sent buffer appends keeps)
    ∙ append_assoc xs sent more ∙ ap (λ rest. xs ++ rest) parts in
    sym (take-append_seam ys (buffer ++ more)) ∙ ap₂ (λ (n : ℕ) (zs : List ℕ). take n zs) (count_is xs ys ws taken sent buffer appends keeps) text_is ∙ take-append-add xs text taken

-- a fault that is none of writing stays
unchanged : (IsOut : Type 0) (taken : ℕ) (f end : Fault) → is_late f ≡ false → EndsAs IsOut taken (Err f) (Err end) → end ≡ f
unchanged IsOut taken (fault.Joined f) end early same = same
unchanged IsOut taken (fault.Config f) end early same = same
unchanged IsOut taken (fault.Table f) end early same = same
unchanged IsOut taken (fault.RankFile f) end early same = same
unchanged IsOut taken (fault.Traffic f) end early same = same
unchanged IsOut taken (fault.Option f) end early same = same
unchanged IsOut taken (fault.Shape f) end early same = same
unchanged IsOut taken (fault.Relation f g) end early same = same
unchanged IsOut taken (fault.Rank f g) end early same = same
unchanged IsOut taken (fault.Network f) end early same = same
unchanged IsOut taken (fault.Run f) end early same = same
unchanged IsOut taken (fault.Write f) end early same = cc

module _ {W S : Type 0} (contents : W → Option (List ℕ)) (seen : S → Option (List ℕ)) (failed : S → Bool) (workers taken : ℕ) (r : Request)
    (before after : W) (buffer : List ℕ) (first last : S) where
  abbrev Told : Result Status Fault → Type 0
  Told = Ends workers (IsOnDevice contents before after) (after ≡ before) (Asks r) (FirstFault r)

  -- the fault that is told instead
  told_as : (f g : Fault) → g ≡ f → Told (Err f) → Told (Err g)
  told_as f g same told = subst (λ (h : Fault). Told (Err h)) (sym same) told

  -- what is told of an answer that has gone out, or of its first fault
  pub told : (answered end : Result Status Fault) → Ends workers (Wrote seen failed first last) (last ≡ first) (Asks r) (FirstFault r) answered
      → EndsAs (buffer ≡ []) taken answered end → seen first ≡ append_known (with_start 0 (contents before)) [] → Keeps (seen last) (append_known (with_start taken (contents after)) buffer)
      → (IsErr answered → last ≡ first → after ≡ before) → Told end
  told answered (Ok end) (in_full {text = text} asks wrote) a opens keeps still = in_full (subst (Asks r text) (sym a.0) asks)
      (whole (contents before) (contents after) (seen last) taken text buffer (subst (λ known. Appends known (seen last) text) opens wrote) keeps a.1)
  told answered (Err end) (in_full {text = text} asks wrote) a opens keeps still = told_as _ end a
      (cut_off asks (front (contents before) (contents after) (seen last) taken text [] text buffer (append-nil text) (subst (λ known. Appends known (seen last) text) opens wrote) keeps))
  told answered (Ok end) (cut_off asks wrote) a opens keeps still = absurd a
  told answered (Err end) (cut_off {text = text} {f = f} asks wrote) a opens keeps still = told_as _ end a
      (cut_off asks (front (contents before) (contents after) (seen last) taken (take f.written text) (drop f.written text) text buffer (take-append-drop f.written text)
      (subst (λ known. Appends known (seen last) (take f.written text)) opens wrote.1) keeps))
  told answered (Ok end) (unstarted none many lost asks) a opens keeps still = absurd a
  told answered (Err end) (unstarted none many lost asks) a opens keeps still = told_as _ end a (unstarted (still refl none) many lost asks)
  told answered (Ok end) (at_fault none refuses) a opens keeps still = absurd a
  told answered (Err end) (at_fault {f = f} none refuses) a opens keeps still =
      told_as f end (unchanged (buffer ≡ []) taken f end refuses.0 a) (at_fault (still refl none) refuses)
