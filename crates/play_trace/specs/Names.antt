-- SPDX-License-Identifier: MIT OR Apache-2.0
-- The names of arguments.
use Rattle.std.specs.Prelude.{ℕ, List, codes}
use Rattle.play_trace.specs.declared.name.Name.{Name}
use Rattle.play_trace.specs.declared.name.Name.TheVariants.{Major, Minor, Feature, Tx, Rx, Pages, Endpoint, Uuid, CountOnly, Partition, Context, Flags, Sender, Receiver, Payload0, Payload1, Payload2, Payload3, Payload4, Length, Fragment, Address, Handle, Contexts, Bits}

abbrev pub name_text : Name → List ℕ
name_text Major = codes "major"
name_text Minor = codes "minor"
name_text Feature = codes "feature"
name_text Tx = codes "tx"
name_text Rx = codes "rx"
name_text Pages = codes "pages"
name_text Endpoint = codes "endpoint"
name_text Uuid = codes "uuid"
name_text CountOnly = codes "count_only"
name_text Partition = codes "partition"
name_text Context = codes "context"
name_text Flags = codes "flags"
name_text Sender = codes "sender"
name_text Receiver = codes "receiver"
name_text Payload0 = codes "payload0"
name_text Payload1 = codes "payload1"
name_text Payload2 = codes "payload2"
name_text Payload3 = codes "payload3"
name_text Payload4 = codes "payload4"
name_text Length = codes "length"
name_text Fragment = codes "fragment"
name_text Address = codes "address"
name_text Handle = codes "handle"
name_text Contexts = codes "contexts"
name_text Bits = codes "bits"
