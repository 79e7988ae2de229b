-- The meetings of a packet, hop by hop.
use Rattle.std.specs.Prelude.{◌≡◌, ℕ, ◌+◌, ◌-◌, ◌<◌, ◌≤◌, [], ◌∷◌, ◌++◌, take, length, slice_index_or, slice_index}
use Rattle.std.specs.List.{enumerate_from}
use Rattle.std.proofs.Common.{sym, ap, ◌∙◌, arith, append-nil, append_assoc, take_all, zero-add}
use Rattle.std.proofs.lemmas.List.{take_more, length-take, get_or-map, length-map, get_or-take}
use Rattle.std.proofs.lemmas.List.FromFn.{length-enumerate_from, get_or-enumerate_from}
use Rattle.lg_model.specs.Scenario.{Scenario}
use Rattle.lg_model.specs.Trace.{Packet, Meeting, packets, reach, meeting_of, meetings_of, meetings_in}
use Rattle.lg_model.proofs.Tracing.{meetings_push}
use Rattle.lg_model.specs.Arriving.{packet_at, no_packet}
use Rattle.lg_model.specs.Midway.{packets_to}
use Rattle.path_sim.specs.Parts.{meetings_to}

front : (p : Packet) → reach p ≤ length p.flow.path → length (take (reach p) p.flow.path) ≡ reach p
front p h = omega (arith, length-take (reach p) p.flow.path)

pub length_meetings : (n : ℕ) (p : Packet) → reach p ≤ length p.flow.path → length (meetings_of (n, p)) ≡ reach p
length_meetings n p h = length-map (enumerate_from 0 (take (reach p) p.flow.path)) (meeting_of n p)
    ∙ length-enumerate_from 0 (take (reach p) p.flow.path) ∙ front p h

pub meeting_at : (n : ℕ) (p : Packet) (k : ℕ) (d : Meeting) → k < reach p → reach p ≤ length p.flow.path
    → slice_index_or (meetings_of (n, p)) k d ≡ meeting_of n p (k, slice_index p.flow.path k)
meeting_at n p k d h inside =
    let hops = take (reach p) p.flow.path in
    let long : length hops ≡ reach p = front p inside in
    let low : k < length hops = omega arith in
    let low' : k < length (enumerate_from 0 hops) = omega (arith, length-enumerate_from 0 hops) in
    get_or-map (meeting_of n p) (enumerate_from 0 hops) k (0, 0) d low'
    ∙ ap (meeting_of n p) (get_or-enumerate_from 0 hops k (0, 0) low ∙ (λ i. (zero-add k i, get_or-take (reach p) p.flow.path k 0 h i)))

pub meetings_to_more : (w : Scenario) (n k : ℕ) (m d : Meeting) → k < length (meetings_of (n, packet_at w n))
    → slice_index_or (meetings_of (n, packet_at w n)) k d ≡ m →
    meetings_to w n (k + 1) ≡ meetings_to w n k ++ m ∷ []
meetings_to_more w n k m d h is =
    let all = meetings_of (n, packet_at w n) in
    ap (λ xs. meetings_in (packets_to w n) ++ xs) (take_more all k d h ∙ ap (λ (x : Meeting). take k all ++ x ∷ []) is)
    ∙ sym (append_assoc (meetings_in (packets_to w n)) (take k all) (m ∷ []))

pub meetings_to_start : (w : Scenario) (n : ℕ) → meetings_to w n 0 ≡ meetings_in (packets_to w n)
meetings_to_start w n = append-nil (meetings_in (packets_to w n))

pub meetings_to_end : (w : Scenario) (n k : ℕ) → n < length (packets w) → k ≡ length (meetings_of (n, packet_at w n))
    → meetings_to w n k ≡ meetings_in (packets_to w (n + 1))
meetings_to_end w n k h all =
    let ms = meetings_of (n, packet_at w n) in
    let whole : take k ms ≡ ms = take_all k ms (omega arith) in
    let long : length (packets_to w n) ≡ n = omega (arith, length-take n (packets w)) in
    ap (λ xs. meetings_in (packets_to w n) ++ xs) whole
    ∙ sym (ap meetings_in (take_more (packets w) n no_packet h) ∙ meetings_push (packets_to w n) (packet_at w n)
    ∙ ap (λ (a : ℕ). meetings_in (packets_to w n) ++ meetings_of (a, packet_at w n)) long)

-- one hop more, for the code
pub hop_more : (w : Scenario) (n k : ℕ) (p : Packet) (m : Meeting) → packet_at w n ≡ p → k < reach p → reach p ≤ length p.flow.path
    → m ≡ meeting_of n p (k, slice_index p.flow.path k) →
    meetings_to w n (k + 1) ≡ meetings_to w n ((k + 1) - 1) ++ m ∷ []
hop_more w n k p m packet h inside is =
    let back : (k + 1) - 1 ≡ k = omega arith in
    let at : slice_index_or (meetings_of (n, packet_at w n)) k m ≡ m = ap (λ (q : Packet). slice_index_or (meetings_of (n, q)) k m) packet
    ∙ meeting_at n p k m h inside ∙ sym is in
    let long : length (meetings_of (n, packet_at w n)) ≡ reach p = ap (λ (q : Packet). length (meetings_of (n, q))) packet ∙ length_meetings n p inside in
    rw back (meetings_to_more w n k m m (omega arith) at)
