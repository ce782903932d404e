-- What the heads of a handshake say (RFC 6455, section 4), and which hosts are on this machine.
use Rattle.std.specs.Prelude.{◌≡◌, ◌++◌, ◌⊎◌, ℕ, List, [], Ok, take, drop, codes}
use Rattle.httparse.specs.Spans.{IsRequestOf, IsResponseOf, span_bytes}
use Rattle.httparse.specs.declared.spans.HeaderSpan.{HeaderSpan}
use Rattle.httparse.specs.declared.spans.RequestSpans.{RequestSpans}
use Rattle.httparse.specs.declared.spans.ResponseSpans.{ResponseSpans}
use Rattle.websocket.specs.Headers.{fields_of}
use Rattle.websocket.specs.Handshake.{requested_key, check_response, response_bytes, accept_key_of, IsValidKey}
use Rattle.websocket.specs.declared.handshake.client.ClientRequest.{ClientRequest}

-- the request asks for a WebSocket with a valid key, which this one accepts
abbrev pub IsAccepted : List ℕ → RequestSpans → List HeaderSpan → List ℕ → Type 0
IsAccepted bytes request fields accept =
    (key : List ℕ) × (requested_key (span_bytes bytes request.method) request.version
    (fields_of bytes (take request.headers fields)) ≡ Ok key)
    × IsValidKey key × (accept ≡ accept_key_of key)

-- a request for a WebSocket stands at the front of the bytes: its target, the answer that accepts
-- it, and what stands behind it
abbrev pub IsAsked : List ℕ → List ℕ → List ℕ → List ℕ → Type 0
IsAsked bytes target answer behind =
    (request : RequestSpans) × (fields : List HeaderSpan) × (accept : List ℕ)
    × IsRequestOf bytes fields request × IsAccepted bytes request fields accept
    × (target ≡ span_bytes bytes request.path)
    × (answer ≡ response_bytes accept []) × (behind ≡ drop request.len bytes)

-- an answer that accepts the request stands at the front of the bytes, and this behind it
abbrev pub IsAnswered : List ℕ → ClientRequest → List ℕ → Type 0
IsAnswered bytes request behind = (answer : ResponseSpans) × (fields : List HeaderSpan)
    × IsResponseOf bytes fields answer × (check_response request answer.version answer.code
    (fields_of bytes (take answer.headers fields)) ≡ Ok tt)
    × (behind ≡ drop answer.len bytes)

-- the host is this machine, by its name or its number, and this stands behind it
abbrev pub IsHere : List ℕ → List ℕ → Type 0
IsHere host port = (host ≡ codes "localhost:" ++ port) ⊎ (host ≡ codes "127.0.0.1:" ++ port)
