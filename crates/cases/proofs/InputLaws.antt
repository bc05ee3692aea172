-- What a reader puts behind the bytes that are in a buffer is what its input loses, and so is all that is then in the buffer.
use mathlib.Core.Path.{◌≡◌, sym, ◌∙◌, ap}
use mathlib.Core.List.{List, ◌++◌}
use Prim.Native.Nat.{ℕ, ◌+◌, ◌-◌, ◌≤◌}
use native.Mathlib.Omega.{arith}
use lib.ListN.{length, take}
use lib.Seq.{length-take-le, take-append-add}
use Rattle.std.proofs.lemmas.List.{take-append-le}
use borrow.Rule.Slice.PartMut.{put_mid, post_of}
use Rattle.std.proofs.Common.{Option, None, Some, append_assoc}
use Rattle.std.specs.Io.KnownBytes.{Consumes}

consumes_both : (start now after : Option (List ℕ)) (first second : List ℕ) → Consumes start now first → Consumes now after second
    → Consumes start after (first ++ second)
consumes_both None now after first second a b = tt
consumes_both (Some xs) (Some ys) (Some zs) first second a b = a ∙ ap (λ l. first ++ l) b ∙ sym (append_assoc first second zs)
consumes_both (Some xs) None after first second a b = absurd a
consumes_both (Some xs) (Some ys) None first second a b = absurd b

pub one_read : (start now after : Option (List ℕ)) (buffer part : List ℕ) (count more : ℕ) → count ≤ length buffer → length part ≡ length buffer - count
    → more ≤ length part → Consumes start now (take count buffer) → Consumes now after (take more part)
    → Consumes start after (take (count + more) (put_mid count (length buffer - count) buffer part))
one_read start now after buffer part count more within size fits before read =
    let front = take count buffer in
    let place : count + more ≡ length front + more = omega (arith, length-take-le count buffer within) in
    let both : take (count + more) (put_mid count (length buffer - count) buffer part) ≡ front ++ take more part =
    ap (λ n. take n (put_mid count (length buffer - count) buffer part)) place ∙ take-append-add front (part ++ post_of count (length buffer - count) buffer) more
    ∙ ap (λ l. front ++ l) (take-append-le more part (post_of count (length buffer - count) buffer) fits) in
    rw both (consumes_both start now after front (take more part) before read)
