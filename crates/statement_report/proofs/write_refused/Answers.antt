use Rattle.std.proofs.Common.{◌≡◌, ◌+◌, ◌<◌, ◌++◌, length, codes, decimal, Ok, ap, ◌∙◌, arith}
use Rattle.std.proofs.lemmas.Fmt.{length-decimal-le}
use Rattle.statement_report.proofs.Making.{front_is, put_at, has_room, more}
use Rattle.statement_report.proofs.write_refused.Goals as goal

pub unwrap-at-requires-2 : goal.unwrap-at-requires-2
unwrap-at-requires-2 c =
    let n = c.from.result in
    let small : n < 256 = omega (arith, c.from.ensures) in
    let short = length-decimal-le 3 n (omega arith) (omega arith) (omega arith) in
    let first = put_at c.args.row.now c.put_bytes.new.out (codes "refused ") 0 c.unwrap-at.result c.put_bytes.result (omega arith) c.put_bytes.ensures.answers c.put_bytes.ensures.out c.unwrap-at.ensures in
    let at : c.unwrap-at.result ≡ 0 + 8 = cc first.0 in
    has_room (length c.put_bytes.new.out) c.unwrap-at.result (decimal n) c.put_number.result (omega (arith, c.put_bytes.auto.out)) c.put_number.ensures.answers

pub unwrap-requires : goal.unwrap-requires
unwrap-requires c =
    let n = c.from.result in
    let small : n < 256 = omega (arith, c.from.ensures) in
    let short = length-decimal-le 3 n (omega arith) (omega arith) (omega arith) in
    let first = put_at c.args.row.now c.put_bytes.new.out (codes "refused ") 0 c.unwrap-at.result c.put_bytes.result (omega arith) c.put_bytes.ensures.answers c.put_bytes.ensures.out c.unwrap-at.ensures in
    let at : c.unwrap-at.result ≡ 0 + 8 = cc first.0 in
    let next = put_at c.put_bytes.new.out c.put_number.new.out (decimal n) c.unwrap-at.result c.unwrap-at-2.result c.put_number.result (omega (arith, c.put_bytes.auto.out)) c.put_number.ensures.answers c.put_number.ensures.out c.unwrap-at-2.ensures in
    let then : c.unwrap-at-2.result ≡ c.unwrap-at.result + length (decimal n) = cc next.0 in
    has_room (length c.put_number.new.out) c.unwrap-at-2.result (codes "\n") c.put_bytes-2.result (omega (arith, c.put_bytes.auto.out, c.put_number.auto.out)) c.put_bytes-2.ensures.answers

pub returns-clause-text : goal.returns-clause-text
returns-clause-text c =
    let n = c.from.result in
    let small : n < 256 = omega (arith, c.from.ensures) in
    let short = length-decimal-le 3 n (omega arith) (omega arith) (omega arith) in
    let row = c.args.row.now in
    let o₁ = c.put_bytes.new.out in
    let o₂ = c.put_number.new.out in
    let o₃ = c.put_bytes-2.new.out in
    let first = put_at row o₁ (codes "refused ") 0 c.unwrap-at.result c.put_bytes.result (omega arith) c.put_bytes.ensures.answers c.put_bytes.ensures.out c.unwrap-at.ensures in
    let at : c.unwrap-at.result ≡ 0 + 8 = cc first.0 in
    let next = put_at o₁ o₂ (decimal n) c.unwrap-at.result c.unwrap-at-2.result c.put_number.result (omega (arith, c.put_bytes.auto.out)) c.put_number.ensures.answers c.put_number.ensures.out c.unwrap-at-2.ensures in
    let then : c.unwrap-at-2.result ≡ c.unwrap-at.result + length (decimal n) = cc next.0 in
    let last = put_at o₂ o₃ (codes "\n") c.unwrap-at-2.result c.unwrap.result c.put_bytes-2.result (omega (arith, c.put_bytes.auto.out, c.put_number.auto.out)) c.put_bytes-2.ensures.answers c.put_bytes-2.ensures.out c.unwrap.ensures in
    let two = more row o₁ o₂ c.unwrap-at.result (Ok c.unwrap-at-2.result) (Ok (codes "refused ")) (Ok (decimal n)) first next in
    let all = more row o₂ o₃ c.unwrap-at-2.result (Ok c.unwrap.result) (Ok (codes "refused " ++ decimal n)) (Ok (codes "\n")) two last in
    let end : c.unwrap.result ≡ 0 + length ((codes "refused " ++ decimal n) ++ codes "\n") = cc all.0 in
    front_is row o₃ ((codes "refused " ++ decimal n) ++ codes "\n") c.unwrap.result end all.1 ∙ ap (λ k. (codes "refused " ++ decimal k) ++ codes "\n") (c.from.ensures ∙ c.number.ensures)
