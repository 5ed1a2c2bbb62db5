-- The encoded hash (a PHC string) as it is written.
use Rattle.std.specs.Prelude.{ℕ, List, ◌++◌, codes}
use Rattle.std.specs.Fmt.{decimal}
use Rattle.base64.specs.Engines.{standard_no_pad}
use Rattle.base64.specs.GeneralPurpose.{encode_of}
use Rattle.argon2_standard.specs.declared.config.Config.{Config}
use Rattle.argon2_standard.specs.declared.variant.Variant.{Variant}
use Rattle.argon2_standard.specs.declared.version.Version.{Version}
use Rattle.argon2_standard.specs.Standard.Variant.{lowercase_name}
use Rattle.argon2_standard.specs.Standard.Version.{version_text}

-- what an encoded hash decodes to. It has neither the secret nor the associated data.
pub record Spelled : Type 0 where
  pub variant : Variant
  pub version : Version
  pub mem_cost : ℕ
  pub time_cost : ℕ
  pub parallelism : ℕ
  pub salt : List ℕ
  pub hash : List ℕ

-- base64 in the standard alphabet without padding (RFC 4648, 4 and 3.2)
abbrev pub base64 : List ℕ → List ℕ
base64 bytes = encode_of standard_no_pad bytes

-- the encoded hash, as `$argon2id$v=19$m=256,t=2,p=1$salt$hash`: the lower-case name, plain decimals, base64
unfoldable pub text_of : Spelled → List ℕ
text_of d =
    codes "$" ++ lowercase_name d.variant
    ++ codes "$v=" ++ version_text d.version
    ++ codes "$m=" ++ decimal d.mem_cost ++ codes ",t=" ++ decimal d.time_cost ++ codes ",p=" ++ decimal d.parallelism
    ++ codes "$" ++ base64 d.salt
    ++ codes "$" ++ base64 d.hash

-- what the encoded hash of these settings decodes to: the settings, the salt and the hash
abbrev pub spelled_of : Config → List ℕ → List ℕ → Spelled
spelled_of config salt hash = record {
  variant = config.variant;
  version = config.version;
  mem_cost = config.mem_cost;
  time_cost = config.time_cost;
  parallelism = config.lanes;
  salt = salt;
  hash = hash;
}
