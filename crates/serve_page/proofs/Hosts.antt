-- The fields of a head that name a host, by their spans in its bytes.
use Rattle.std.proofs.Common.{[], ◌∙◌, ◌∷◌, ◌≡◌, ◌≤◌, ap, Bool, cond, false, length, List, map, refl, subst, sym, take}
use Rattle.std.proofs.Common.{true, ℕ}
use Rattle.std.proofs.lemmas.List.{length-map}
use Rattle.httparse.specs.declared.spans.HeaderSpan.{HeaderSpan}
use Rattle.httparse.specs.Grammar.{RequestHead}
use Rattle.httparse.specs.Spans.{AreFieldsAt, header_bytes, span_bytes}
use Rattle.serve_page.specs.declared.request.Hosts.{Hosts}
use Rattle.serve_page.specs.declared.request.Hosts.TheVariants as hosts
use Rattle.serve_page.specs.Requests.{AreHosts, AreHostsOf, hosts_in, hosts_of, named_in, names_host}

-- the hosts among the covered bytes are the covered bytes of the spans that name a host
pub hosts_covered : (bytes : List ℕ) (spans : List HeaderSpan)
    → hosts_of (map (header_bytes bytes) spans) ≡ map (header_bytes bytes) (named_in bytes spans)
hosts_covered bytes [] = refl
hosts_covered bytes (span ∷ spans) =
    covered_by (names_host (span_bytes bytes span.name)) (header_bytes bytes) span (named_in bytes spans)
    (hosts_of (map (header_bytes bytes) spans)) (hosts_covered bytes spans)
  where
    covered_by : (b : Bool) (f : HeaderSpan → List ℕ × List ℕ) (x : HeaderSpan) (xs : List HeaderSpan)
        (ys : List (List ℕ × List ℕ)) → ys ≡ map f xs
        → cond b (f x ∷ ys) ys ≡ map f (cond b (x ∷ xs) xs)
    covered_by true f x xs ys e = ap (λ t. f x ∷ t) e
    covered_by false f x xs ys e = e

-- the same, for a head whose fields these spans cover
as_listed : (bytes : List ℕ) (headers : List HeaderSpan) (count : ℕ) (h : RequestHead)
    → AreFieldsAt bytes headers count h.fields
    → hosts_in h ≡ map (header_bytes bytes) (named_in bytes (take count headers))
as_listed bytes headers count h at = ap hosts_of (sym at) ∙ hosts_covered bytes (take count headers)

-- the hosts of a head whose fields these spans cover
pub hosts_at : (bytes : List ℕ) (headers : List HeaderSpan) (count : ℕ) (h : RequestHead) (it : Hosts)
    → AreFieldsAt bytes headers count h.fields
    → AreHosts (named_in bytes (take count headers)) it → AreHostsOf bytes h it
hosts_at bytes headers count h hosts.Nothing at are =
    as_listed bytes headers count h at ∙ ap (λ t. map (header_bytes bytes) t) are
hosts_at bytes headers count h (hosts.One field) at are =
    as_listed bytes headers count h at ∙ ap (λ t. map (header_bytes bytes) t) are
hosts_at bytes headers count h hosts.Several at are =
    subst (λ n. 2 ≤ n)
    (sym (ap length (as_listed bytes headers count h at)
    ∙ length-map (named_in bytes (take count headers)) (header_bytes bytes))) are
