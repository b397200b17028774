use Rattle.unit_file.proofs.Framing.{taken}
use Rattle.unit_file.proofs.reader.framed.Goals as goal

pub returns-then-not-fits_kind : goal.returns-then-not-fits_kind
returns-then-not-fits_kind c =
    let a = c.in_ok-len.ensures.cases in
    let b = c.in_ok-get.ensures.lookup.0 in
    let d = c.in_ok-kind.ensures.cases in
    (taken c.args.rest.now c.in_ok-len.len.now c.in_ok-len.behind.now c.in_ok-get.field-0.now c.in_ok-kind.fields.now c.in_ok-kind.kind.now c.from_be_bytes-len.result _
    a.0 a.1 a.2 c.from_be_bytes-len.ensures b.1 b.2 b.3 d.0 d.1 c.if-not-fits_kind.ensures).bad

pub returns : goal.returns
returns c =
    let a = c.in_ok-len.ensures.cases in
    let b = c.in_ok-get.ensures.lookup.0 in
    let d = c.in_ok-kind.ensures.cases in
    let t = taken c.args.rest.now c.in_ok-len.len.now c.in_ok-len.behind.now c.in_ok-get.field-0.now c.in_ok-kind.fields.now c.in_ok-kind.kind.now c.from_be_bytes-len.result _
    a.0 a.1 a.2 c.from_be_bytes-len.ensures b.1 b.2 b.3 d.0 d.1 c.if-not-fits_kind.ensures in
    record { good = t.bad; kind_is = t.kind_is; fields_are = t.fields_are; long = t.long }
