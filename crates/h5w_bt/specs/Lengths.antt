-- How many bytes nodes have, by their depth.
use Rattle.std.specs.Prelude.{ℕ, zero, suc}
use Rattle.h5w_model.specs.Trees.{btin_len, btlf_len}

-- how many bytes a node of a depth with n records has, up to its sum
abbrev pub node_len : ℕ → ℕ → ℕ
node_len zero n = btlf_len n
node_len (suc depth) n = btin_len n (suc depth)
